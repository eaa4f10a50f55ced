use Rattle.std.proofs.Common.{◌++◌, ◌∙◌, ap, sym, bytes_eq}
use Rattle.std.specs.Option.{option_copied}
use Rattle.dita_doc.specs.declared.plan.Context.{Context}
use Rattle.href_text.specs.Joined.{relative_path}
use Rattle.html_spec.specs.Anchors.{fragment}
use Rattle.xref_links.proofs.LeadLaws.{lead_paged, lead_unpaged}
use Rattle.xref_links.proofs.lead.lead_to_page.Goals as goal

pub returns-in_default : goal.returns-in_default
returns-in_default c = λ here stand element faults is found.
    lead_unpaged here stand c.args.page element c.args.name.now c.args.topic.now c.args.id.now is c.args.number found
    c.nowhere.result faults (sym c.page_numbered.ensures ∙ ap option_copied c.in_default.is)
    c.nowhere.ensures.href c.nowhere.ensures.own

pub returns : goal.returns
returns c = λ here stand element faults is found.
    lead_paged here stand c.args.page element c.args.name.now c.args.topic.now c.args.id.now is c.args.number found
    c.in-Some.other.now c.append_fragment.new.href c.eq-is_own.result faults
    (sym c.page_numbered.ensures ∙ ap option_copied c.in-Some.is)
    (c.in_ok-append_fragment.ensures
    ∙ ap (λ path. path ++ fragment c.args.topic.now c.args.id.now) (c.in_ok-href.ensures
    ∙ ap (λ (context : Context). relative_path context.name c.in-Some.other.now.name) c.deref.ensures))
    (c.eq-is_own.ensures
    ∙ ap (λ (context : Context). bytes_eq c.args.name.now context.page.doc) c.deref-2.ensures)
