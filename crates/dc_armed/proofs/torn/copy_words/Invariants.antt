use Rattle.std.proofs.Common.{◌≡◌, Ok}
use Rattle.dc_media.specs.Devices.{of_words}
use Rattle.dc_media.specs.Stores.{copied}
use Rattle.dc_media.specs.Told.{Becomes}
use Rattle.dc_armed.specs.Torn.{IsInCalls}
use Rattle.dc_armed.proofs.torn.copy_words.Given as goal

-- so many words were copied, each by one call
abbrev pub invariant-loop-k : goal.invariant-loop-k
invariant-loop-k g l = let K = g.K.Keeps in record {
  words : Becomes (K.told l.fn.keeps l.p) (K.told l.keeps l.p) (λ before after. after ≡ copied l.k l.from l.to before);
  unmade : l.k ≡ 0 → l.keeps ≡ l.fn.keeps;
  lawful : IsInCalls {T = Unit {0}} (of_words K) l.p l.k (Ok tt) l.fn.keeps l.keeps;
}
