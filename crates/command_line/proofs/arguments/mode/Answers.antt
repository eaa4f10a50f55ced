use Rattle.std.specs.Prelude.{◌≡◌, List, Some, codes, map, true}
use Rattle.std.specs.Borrow.{Bor}
use Rattle.std.proofs.Common.{◌∙◌, ap}
use Rattle.clap.specs.Simple.{new_rule}
use Rattle.clap.specs.Walk.{Rule, Text, rule_of}
use Rattle.clap.specs.declared.builder.action.ArgAction.TheVariants.{Set}
use Rattle.clap.specs.declared.builder.arg.Arg.{Arg}
use Rattle.clap.specs.declared.builder.value_parser.ValueParser.{ValueParser}
use Rattle.clap.specs.declared.builder.value_parser.ValueParser.TheVariants as values
use Rattle.command_line.specs.Command.{mode}
use Rattle.command_line.proofs.arguments.mode.Goals as goal

-- what the rule is after each of the calls that make it
mode_made : (new required acting named parsed made : Arg) (names : Bor (List (Bor Text))) (taken : ValueParser)
    (help : Bor Text) → rule_of new ≡ new_rule (codes "mode") → required ≡ record new { required = true }
    → acting ≡ record required { action = Some Set } → rule_of named ≡ record (rule_of acting) { value_names = 1 }
    → parsed ≡ record named { value_parser = parsed.value_parser } → parsed.value_parser ≡ Some taken
    → taken ≡ values.Names names → made ≡ record parsed { help = Some help } → rule_of made ≡ mode (values.Names names)
mode_made new required acting named parsed made names taken help is_new is_required is_acting is_named is_parsed
    given is is_made = ap rule_of is_made ∙ ap rule_of is_parsed
    ∙ ap (λ parser. record (rule_of named) { parser = parser }) (given ∙ ap Some is)
    ∙ ap (λ (rule : Rule). record rule { parser = Some (values.Names names) }) is_named
    ∙ ap (λ (arg : Arg). record (rule_of arg) { value_names = 1; parser = Some (values.Names names) }) is_acting
    ∙ ap (λ (arg : Arg). record (rule_of arg) { action = Some Set; value_names = 1; parser = Some (values.Names names) }) is_required
    ∙ ap (λ (rule : Rule). record rule { required = true; action = Some Set; value_names = 1; parser = Some (values.Names names) }) is_new

pub returns-clause-rule : goal.returns-clause-rule
returns-clause-rule c =
    let given = c.value_parser.ensures.given in (
      c.as_slice.result,
      ap (map (λ name. name.now)) c.as_slice.ensures,
      mode_made _ _ _ _ _ _ _ _ _ c.new.ensures.rule c.required.ensures c.action.ensures (ap rule_of c.value_name.ensures)
          c.value_parser.ensures.others given.1 given.2 c.help.ensures,
    )
