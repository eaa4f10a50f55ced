use Rattle.std.proofs.Common.{rules}
use Rattle.script_text.proofs.words.read_session.Goals as goal

pub returns-else-session-gt-SESSION_LIMIT : goal.returns-else-session-gt-SESSION_LIMIT
returns-else-session-gt-SESSION_LIMIT c = search rules
