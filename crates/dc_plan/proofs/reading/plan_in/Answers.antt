use Rattle.std.proofs.Common.{◌∙◌, ap, refl, sym, Ok}
use Rattle.std.proofs.lemmas.Bool.{false≢true}
use Rattle.dc_plan.proofs.Documents.{a_document, no_document, no_text}
use Rattle.toml.specs.View.{table_view}
use Rattle.dc_plan.specs.Parts.{parts_view}
use Rattle.dc_plan.proofs.Allowing.{read_have_room}
use Rattle.dc_plan.proofs.reading.plan_in.Goals as goal

pub returns-in_default : goal.returns-in_default
returns-in_default c = no_text c.args.command c.args.bytes.now c.in_default.ensures.cases.0

pub returns-in-Err-2 : goal.returns-in-Err-2
returns-in-Err-2 c = no_document c.args.command c.args.bytes.now c.in-Ok.text.now c.in-Ok.ensures.cases.0 c.in-Ok.ensures.cases.1
    (c.in-Err.ensures.refused (λ is. false≢true (sym c.if-is_memory.false ∙ c.is_memory.ensures.1 is)))

pub returns-in-Err-parts_in : goal.returns-in-Err-parts_in
returns-in-Err-parts_in c = a_document c.args.command c.args.bytes.now c.in-Ok.text.now c.in-Ok.ensures.cases.0 c.in-Ok.ensures.cases.1 _ c.in-Ok-table_from_str.ensures.ok ∙ sym c.in-Err-parts_in.ensures

pub returns-in-Ok-copied : goal.returns-in-Ok-copied
returns-in-Ok-copied c = a_document c.args.command c.args.bytes.now c.in-Ok.text.now c.in-Ok.ensures.cases.0 c.in-Ok.ensures.cases.1 _ c.in-Ok-table_from_str.ensures.ok
    ∙ sym c.in-Ok-parts_in.ensures ∙ ap Ok (sym c.in-Ok-copied.ensures)

pub copied-requires : goal.copied-requires
copied-requires c = read_have_room c.args.command (table_view c.in-Ok-table_from_str.table) (parts_view c.in-Ok-parts_in.parts) c.in-Ok-parts_in.parts.stops.now refl (sym c.in-Ok-parts_in.ensures)
