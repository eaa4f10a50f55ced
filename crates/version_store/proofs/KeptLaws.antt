-- What is kept after one more request.
use Rattle.std.proofs.Common.{◌≡◌, ℕ, ◌+◌, Option, List, [], ◌∷◌, ◌++◌, length, map, sym, ap, ◌∙◌, arith, subst, length-append}
use Rattle.std.proofs.lemmas.List.{map_push}
use Rattle.dita_doc.specs.Request.{text_size}
use Rattle.dita_doc.specs.Desk.{State, reply}
use Rattle.dita_doc.specs.History.{Entry, sources, replay}
use Rattle.dita_doc.specs.declared.request.Entry as given
use Rattle.dita_doc.specs.Seen.{entry_seen, request_seen, reply_seen}
use Rattle.version_store.specs.Change.{left_by}
use Rattle.version_store.specs.Kept.{Kept, IsKept, IsLeft, Fits, kept_of, reply_now}
use Rattle.version_store.proofs.HistoryLaws.{legal_push, size_push, sources_all, sources_push}

-- one more entry that is answered as the desk answers
abbrev with_entry : Kept → Entry → Kept
with_entry kept entry = record {
  history = kept.history ++ entry ∷ [];
  entry_limit = kept.entry_limit;
  text_limit =
      kept.text_limit;
}

kept_more : (state after : State) (size more : ℕ) (kept : Kept) (entry : Entry) (left : Option State)
    → IsKept state size kept → Fits kept entry.request → entry.reply ≡ reply_now kept entry.request
    → IsLeft kept entry.request entry.reply left
    → after ≡ left_by state entry.request entry.reply left → more ≡ text_size entry.request
    → IsKept after (size + more) (with_entry kept entry)
kept_more state after size more kept entry left is fits answered leaves changed large =
    let history = kept.history in
    let longer = length-append history (entry ∷ []) in
    record {
      legal =
          legal_push [] 0 history entry is.legal
          (answered
          ∙ ap (λ (s : State). reply s (length history) entry.request) (sources_all history)
          ∙ ap (λ n. reply (replay [] 0 history) n entry.request) {x = length history} (omega arith));
      stored =
          changed
          ∙ ap (λ (s : State). left_by s entry.request entry.reply left) is.stored
          ∙ leaves
          ∙ sym (sources_push history entry)
          ∙ ap (sources (history ++ entry ∷ [])) (sym longer);
      text = omega (arith, is.text, large, size_push history entry);
      entries = omega (arith, longer, fits.entries);
      bytes = omega (arith, size_push history entry, fits.text);
    }

-- the same of the entries of a store
pub kept_grown : (state after : State) (size more entry_limit text_limit : ℕ) (kept : Kept)
    → (entries grown : List given.Entry) (entry : given.Entry) (left : Option State)
    → kept_of entries entry_limit text_limit ≡ kept → IsKept state size (kept_of entries entry_limit text_limit)
    → Fits kept (request_seen entry.request) → reply_seen entry.reply ≡ reply_now kept (request_seen entry.request)
    → IsLeft kept (request_seen entry.request) (reply_seen entry.reply) left
    → after ≡ left_by state (request_seen entry.request) (reply_seen entry.reply) left
    → more ≡ text_size (request_seen entry.request) → grown ≡ entries ++ entry ∷ []
    → IsKept after (size + more) (kept_of grown entry_limit text_limit)
kept_grown state after size more entry_limit text_limit kept entries grown entry left view is fits answered leaves
    changed large added =
    let request = request_seen entry.request in
    let longer : map entry_seen grown ≡ map entry_seen entries ++ entry_seen entry ∷ [] =
    ap (map entry_seen) added ∙ map_push entry_seen entries entry in
    let grows : (history : List Entry) → Kept =
    λ history. record { history = history; entry_limit = entry_limit; text_limit = text_limit } in
    subst (λ history. IsKept after (size + more) (grows history)) (sym longer)
    (kept_more state after size more (kept_of entries entry_limit text_limit) (entry_seen entry) left is
    (subst (λ (k : Kept). Fits k request) (sym view) fits)
    (answered ∙ ap (λ (k : Kept). reply_now k request) (sym view))
    (subst (λ (k : Kept). IsLeft k request (reply_seen entry.reply) left) (sym view) leaves) changed large)
