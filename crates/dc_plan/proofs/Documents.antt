-- A plan by what its bytes are.
use Rattle.std.proofs.Common.{◌≡◌, ◌∙◌, ℕ, List, Option, Some, None, Err, if◌then◌else◌, ap, sym, ⊎_elim}
use Rattle.std.specs.Str.{IsUtf8, is_utf8}
use Rattle.std.proofs.lemmas.Bool.{cases_Bool}
use Rattle.std.proofs.lemmas.Str.{IsUtf8-from_is_utf8, is_utf8-from_IsUtf8}
use Rattle.toml.specs.Data.{Members}
use Rattle.toml.specs.Parse.{parse_document}
use Rattle.dc_plan.specs.Plans.{plan_from, plan_of}
use Rattle.dc_words.specs.Results.{◌>>=◌, or_fault}
use Rattle.dc_plan.specs.declared.command.Command.{Command}
use Rattle.dc_plan.specs.declared.fault.PlanFault.TheVariants.{Text}

-- bytes that are no UTF-8
pub no_text : (by : Command) (bytes : List ℕ) → ¬ (IsUtf8 bytes) → plan_of by bytes ≡ Err Text
unfolding plan_of
no_text by bytes not_text = ⊎_elim
    (λ is. absurd (not_text (IsUtf8-from_is_utf8 bytes is)))
    (λ is_not. ap (λ b. or_fault Text (if b then parse_document bytes else None) >>= plan_from by) is_not)
    (cases_Bool (is_utf8 bytes))

module _ (by : Command) (bytes text : List ℕ) (same : text ≡ bytes) (utf8 : IsUtf8 bytes) where
  text_is : (found : Option Members) → parse_document text ≡ found → plan_of by bytes ≡ (or_fault Text found >>= plan_from by)
  unfolding plan_of
  text_is found e = ap (λ b. or_fault Text (if b then parse_document bytes else None) >>= plan_from by) (is_utf8-from_IsUtf8 bytes utf8)
      ∙ ap (λ t. or_fault Text t >>= plan_from by) (ap parse_document (sym same) ∙ e)

  -- a text that is no document
  pub no_document : parse_document text ≡ None → plan_of by bytes ≡ Err Text
  no_document e = text_is None e

  -- a document
  pub a_document : (ms : Members) → parse_document text ≡ Some ms → plan_of by bytes ≡ plan_from by ms
  a_document ms e = text_is (Some ms) e
