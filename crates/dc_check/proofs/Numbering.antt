-- The line of a visible record has the record's numbers.
use Rattle.std.proofs.Common.{◌≡◌, ◌∙◌, ◌^◌, ◌*◌, ◌/◌, ◌%◌, ◌==◌, ◌&&◌, ◌||◌, ◌<◌, ◌≤◌, ℕ, Bool, true, false, not, List, [], ◌∷◌, ◌++◌, Some, ap, sym, refl, arith, append_assoc, codes, decimal, is_some, length, nat_le, reverse}
use Rattle.std.specs.Str.{bytes_eq}
use Rattle.std.proofs.lemmas.Bool.Decides.{nat_tests}
use Rattle.std.proofs.lemmas.List.{append_cancel_right}
use Rattle.dc_acts.specs.Lines.{body_line, hex_text, hex_word, numbered, visible_line}
use Rattle.dc_model.specs.declared.visible.Body.{Body}
use Rattle.dc_model.specs.declared.visible.Body.TheVariants.{Out, End, Trap}
use Rattle.dc_model.specs.declared.visible.Visible.{Visible}
use Rattle.dc_words.specs.Hex.{hex_digit, hex_of, value_of}
use Rattle.dc_words.specs.Texts.{fields_of, has_no}
use Rattle.dc_words.specs.Words.{AllBelow, word_bytes}
use Rattle.dc_words.proofs.Bytes.{hex_length}
use Rattle.dc_words.proofs.Joining.{fields_last, fields_then, none_in_both}
use Rattle.dc_words.proofs.Reading.{decimal_below, decimal_has_no}
use Rattle.dc_check.specs.Records.{CanShow, is_body, is_hex, is_hex_text, is_hex_word, numbers_by, numbers_in}

-- a digit that was written
digit_hex : (n : ℕ) → n < 16 → is_some (value_of (hex_digit n)) ≡ true
digit_hex n small = grind (arith, nat_tests)

digit_is_not : (stop n : ℕ) → stop < 48 → n < 16 → (hex_digit n == stop) ≡ false
digit_is_not stop n low small = grind (arith, nat_tests)

-- bytes that were written
written_hex : (bytes : List ℕ) → AllBelow (2 ^ 8) bytes → is_hex (hex_of bytes) ≡ true
written_hex [] small = refl
written_hex (b ∷ bytes) small = let below : b < 256 = small.0 in
    rw (digit_hex (b / 16) (omega (arith, below)), digit_hex (b % 16) (omega arith), written_hex bytes small.1) refl

written_free : (stop : ℕ) (bytes : List ℕ) → stop < 48 → AllBelow (2 ^ 8) bytes → has_no stop (hex_of bytes) ≡ true
written_free stop [] low small = refl
written_free stop (b ∷ bytes) low small = let below : b < 256 = small.0 in
    rw (digit_is_not stop (b / 16) low (omega (arith, below)), digit_is_not stop (b % 16) low (omega arith), written_free stop bytes low small.1) refl

-- as many digits as an output has
fitting : (l n : ℕ) → l ≡ 2 * n → 0 < n → n ≤ 256 → (l % 2 == 0 && (not (l == 0) && nat_le l 512)) ≡ true
fitting l n is some few = grind (arith, nat_tests)

or_true : (a b : Bool) → b ≡ true → (a || b) ≡ true
or_true true b so = refl
or_true false b so = so

digits_are : (text : List ℕ) → is_hex text ≡ true → (length text % 2 == 0 && (not (length text == 0) && nat_le (length text) 512)) ≡ true → is_hex_text text ≡ true
digits_are text hex fits = or_true (bytes_eq text (codes "-")) (is_hex text && (length text % 2 == 0 && (not (length text == 0) && nat_le (length text) 512))) (rw (hex, fits) refl)

-- the text of an output
dash_free : (stop : ℕ) → stop < 45 → has_no stop (codes "-") ≡ true
dash_free stop low = grind (arith, nat_tests)

out_free : (stop : ℕ) (text : List ℕ) → stop < 45 → AllBelow (2 ^ 8) text → has_no stop (hex_text text) ≡ true
out_free stop [] low small = dash_free stop low
out_free stop (b ∷ text) low small = written_free stop (b ∷ text) (omega (arith, low)) small

out_is : (text : List ℕ) → length text ≤ 256 → AllBelow (2 ^ 8) text → is_hex_text (hex_text text) ≡ true
out_is [] few small = refl
out_is (b ∷ text) few small = digits_are (hex_of (b ∷ text)) (written_hex (b ∷ text) small) (fitting (length (hex_of (b ∷ text))) (length (b ∷ text)) (hex_length (b ∷ text)) (omega arith) few)

-- a word in hexadecimal
word_below : (w : ℕ) → AllBelow (2 ^ 8) (reverse (word_bytes w))
word_below w = (omega arith, (omega arith, (omega arith, (omega arith, tt))))

word_is : (w : ℕ) → is_hex_word (hex_word w) ≡ true
word_is w = rw (written_hex (reverse (word_bytes w)) (word_below w)) refl

-- a name and two numbers in front of what is shown
module _ (name : List ℕ) (p k : ℕ) (shown : List ℕ) (bare : has_no 32 name ≡ true) (small : p < 2 ^ 32) (few : k < 2 ^ 32) where
  fields : fields_of 32 (name ++ 32 ∷ (decimal p ++ 32 ∷ (decimal k ++ 32 ∷ shown))) ≡ name ∷ decimal p ∷ decimal k ∷ fields_of 32 shown
  fields = fields_then 32 name (decimal p ++ 32 ∷ (decimal k ++ 32 ∷ shown)) bare
      ∙ ap (λ xs. name ∷ xs) (fields_then 32 (decimal p) (decimal k ++ 32 ∷ shown) (decimal_has_no 32 p (omega arith) (omega (arith, small))))
      ∙ ap (λ xs. name ∷ decimal p ∷ xs) (fields_then 32 (decimal k) shown (decimal_has_no 32 k (omega arith) (omega (arith, few))))

  numbers : is_body name (fields_of 32 shown) ≡ true → numbers_in (name ++ 32 ∷ (decimal p ++ 32 ∷ (decimal k ++ 32 ∷ shown))) ≡ Some (decimal p ++ 32 ∷ decimal k)
  numbers shows = ap numbers_by fields ∙ rw (decimal_below (2 ^ 32) p small (omega (arith, small)), decimal_below (2 ^ 32) k few (omega (arith, few)), shows) refl

-- what stands behind the numbers, and its fields
abbrev shown_text : Body → List ℕ
shown_text (Out text) = hex_text text
shown_text (End code) = decimal code
shown_text (Trap cause pc) = decimal cause ++ 32 ∷ hex_word pc

abbrev name_of : Body → List ℕ
name_of (Out text) = codes "out"
name_of (End code) = codes "end"
name_of (Trap cause pc) = codes "trap"

shown_is : (body : Body) → CanShow body → is_body (name_of body) (fields_of 32 (shown_text body)) ≡ true
shown_is (Out text) can = ap (is_body (codes "out")) (fields_last 32 (hex_text text) (out_free 32 text (omega arith) can.1)) ∙ rw (out_is text can.0 can.1) refl
shown_is (End code) can = ap (is_body (codes "end")) (fields_last 32 (decimal code) (decimal_has_no 32 code (omega arith) (omega (arith, can)))) ∙ rw (decimal_below (2 ^ 32) code can (omega (arith, can))) refl
shown_is (Trap cause pc) can = ap (is_body (codes "trap"))
    (fields_then 32 (decimal cause) (hex_word pc) (decimal_has_no 32 cause (omega arith) (omega (arith, can.0)))
    ∙ ap (λ xs. decimal cause ∷ xs) (fields_last 32 (hex_word pc) (written_free 32 (reverse (word_bytes pc)) (omega arith) (word_below pc))))
    ∙ rw (decimal_below (2 ^ 32) cause can.0 (omega (arith, can.0)), word_is pc) refl

-- a line as it is written, and by its fields
grouped : (p k shown : List ℕ) → (((p ++ 32 ∷ []) ++ k) ++ 32 ∷ []) ++ shown ≡ p ++ 32 ∷ (k ++ 32 ∷ shown)
grouped p k shown = ap (λ xs. (xs ++ 32 ∷ []) ++ shown) (append_assoc p (32 ∷ []) k) ∙ append_assoc (p ++ 32 ∷ k) (32 ∷ []) shown ∙ append_assoc p (32 ∷ k) (32 ∷ shown)

-- a line without its line feed
abbrev pub bare : ℕ → ℕ → Body → List ℕ
bare p k body = name_of body ++ 32 ∷ (decimal p ++ 32 ∷ (decimal k ++ 32 ∷ shown_text body))

pub line_is : (p k : ℕ) (body : Body) → body_line p k body ≡ bare p k body ++ 10 ∷ []
line_is p k (Out text) = ap (λ xs. (codes "out " ++ xs) ++ 10 ∷ []) (grouped (decimal p) (decimal k) (hex_text text))
line_is p k (End code) = ap (λ xs. (codes "end " ++ xs) ++ 10 ∷ []) (grouped (decimal p) (decimal k) (decimal code))
line_is p k (Trap cause pc) = ap (λ xs. xs ++ 10 ∷ [])
    (append_assoc (numbered (codes "trap ") p k ++ decimal cause) (32 ∷ []) (hex_word pc) ∙ append_assoc (numbered (codes "trap ") p k) (decimal cause) (32 ∷ hex_word pc)
    ∙ ap (λ xs. codes "trap " ++ xs) (grouped (decimal p) (decimal k) (decimal cause ++ 32 ∷ hex_word pc)))

name_free : (body : Body) → has_no 32 (name_of body) ≡ true
name_free (Out text) = refl
name_free (End code) = refl
name_free (Trap cause pc) = refl

pub record_numbers : (x : Visible) (line : List ℕ) → x.p < 2 ^ 32 → x.k < 2 ^ 32 → CanShow x.body → visible_line x ≡ line ++ 10 ∷ [] → numbers_in line ≡ Some (decimal x.p ++ 32 ∷ decimal x.k)
record_numbers x line small few can is = ap numbers_in (append_cancel_right line (bare x.p x.k x.body) (10 ∷ []) (sym is ∙ line_is x.p x.k x.body))
    ∙ numbers (name_of x.body) x.p x.k (shown_text x.body) (name_free x.body) small few (shown_is x.body can)

-- no line feed stands within a line
shown_fed : (body : Body) → CanShow body → has_no 10 (shown_text body) ≡ true
shown_fed (Out text) can = out_free 10 text (omega arith) can.1
shown_fed (End code) can = decimal_has_no 10 code (omega arith) (omega (arith, can))
shown_fed (Trap cause pc) can = none_in_both 10 (decimal cause) (32 ∷ hex_word pc) (decimal_has_no 10 cause (omega arith) (omega (arith, can.0))) (written_free 10 (reverse (word_bytes pc)) (omega arith) (word_below pc))

name_fed : (body : Body) → has_no 10 (name_of body) ≡ true
name_fed (Out text) = refl
name_fed (End code) = refl
name_fed (Trap cause pc) = refl

pub line_fed : (p k : ℕ) (body : Body) → p < 2 ^ 32 → k < 2 ^ 32 → CanShow body → has_no 10 (bare p k body) ≡ true
line_fed p k body small few can = none_in_both 10 (name_of body) (32 ∷ (decimal p ++ 32 ∷ (decimal k ++ 32 ∷ shown_text body))) (name_fed body)
    (none_in_both 10 (decimal p) (32 ∷ (decimal k ++ 32 ∷ shown_text body)) (decimal_has_no 10 p (omega arith) (omega (arith, small)))
    (none_in_both 10 (decimal k) (32 ∷ shown_text body) (decimal_has_no 10 k (omega arith) (omega (arith, few))) (shown_fed body can)))
