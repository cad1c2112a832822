use Rattle.std.proofs.Common.{◌≡◌, ◌*◌, ◌^◌, sym, ap, ◌∙◌, Result, Ok, Err, IfOk, IfErr, IsOk, ℕ, List, None, Some, take, length, refl}
use Rattle.dc_words.specs.Hex.{bytes_of_hex, hex_of}
use Rattle.dc_words.specs.Words.{AllBelow}
use Rattle.dc_words.specs.declared.hex.NotHex.{NotHex}
use Rattle.dc_words.proofs.Unhexing.{hex_again, hex_back}
use Rattle.dc_words.proofs.hex.read_hex.Goals as goal

-- what is read is written so
found : (text to : List ℕ) (r : Result ℕ NotHex) → IfOk r (λ n. (bytes_of_hex text ≡ Some (take n to)) × (2 * n ≡ length text))
    → IfOk r (λ n. (text ≡ hex_of (take n to)) × (2 * n ≡ length text))
found text to (Ok n) e = (hex_back text (take n to) e.0, e.1)
found text to (Err f) e = tt

-- what is written is read
only : (text : List ℕ) (r : Result ℕ NotHex) → IfErr r (λ _. bytes_of_hex text ≡ None)
    → (bytes : List ℕ) → AllBelow (2 ^ 8) bytes → text ≡ hex_of bytes → IsOk r
only text (Ok n) e bytes small is = refl
only text (Err f) e bytes small is =
    let both : None ≡ Some bytes = sym e ∙ ap bytes_of_hex is ∙ hex_again bytes small in
    absurd (let never : ⊥ = cc in never)

pub returns-clause-found : goal.returns-clause-found
returns-clause-found c = found c.args.text.now c.read_pairs.new.to c.read_pairs.result c.read_pairs.ensures.exact

pub returns-clause-only : goal.returns-clause-only
returns-clause-only c = only c.args.text.now c.read_pairs.result c.read_pairs.ensures.refused
