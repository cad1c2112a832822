-- Lines that are marked where a word is stored.
use Rattle.std.proofs.Common.{◌≡◌, ◌≢◌, ◌⊎◌, ◌+◌, ◌-◌, ◌/◌, ◌%◌, ◌<◌, ◌≤◌, ℕ, Bool, true, List, length, get_or, set, inl, inr, take, length-set, get_or-set_other, refl, sym, ◌∙◌, ap, subst, arith, ⊎_elim, Some}
use Rattle.std.proofs.lemmas.Bool.{cases_eq, cases_lt}
use Rattle.std.proofs.lemmas.List.{get_or-set_same, length-take-le, set-get_or}
use Rattle.std.proofs.lemmas.Option.{slice_get_within, slice_get-get_or, get_or_from_slice_get}
use Rattle.dc_media.specs.Disk.{spliced}
use Rattle.dc_media.proofs.Splicing.{get_or-spliced_inside, get_or-spliced_outside, length-spliced}
use Rattle.dc_kernel.specs.Layout.{commit_at}
use Rattle.dc_redo.specs.Marking.{Differs, IsMarked, MarksThese, OfText}
use Rattle.dc_redo.specs.Shapes.{Shape}

-- where nothing is stored
pub marks_none : (b : List ℕ) (t : List Bool) → MarksThese (Differs b b) t t
marks_none b t line = (λ is. inl is, λ e. ⊎_elim (λ was. was) (λ (d : Differs b b line). absurd (d.2 refl)) e)

-- one line is marked
pub marks_one : (t : List Bool) (k line : ℕ) → k < length t → IsMarked (set t k true) line → IsMarked t line ⊎ (line ≡ k)
marks_one t k line low is = ⊎_elim
    (λ (same : line ≡ k). inr same)
    (λ (other : line ≢ k).
    let within = slice_get_within (set t k true) line true is in
    let short : line < length t = omega (arith, length-set t k true, within) in
    inl (slice_get-get_or t line true short ∙ ap Some (sym (get_or-set_other t k line true true other) ∙ get_or_from_slice_get (set t k true) line true true is)))
    (cases_eq line k)

pub one_marked : (t : List Bool) (k line : ℕ) → k < length t → IsMarked t line ⊎ (line ≡ k) → IsMarked (set t k true) line
one_marked t k line low e =
    let long = length-set t k true in
    let here : IsMarked (set t k true) k = slice_get-get_or (set t k true) k true (omega (arith, long, low)) ∙ ap Some (get_or-set_same t k true true low) in
    ⊎_elim
    (λ (was : IsMarked t line). ⊎_elim
    (λ (same : line ≡ k). subst (IsMarked (set t k true)) (sym same) here)
    (λ (other : line ≢ k).
    let short = slice_get_within t line true was in
    slice_get-get_or (set t k true) line true (omega (arith, long, short)) ∙ ap Some (get_or-set_other t k line true true other ∙ get_or_from_slice_get t line true true was))
    (cases_eq line k))
    (λ (same : line ≡ k). subst (IsMarked (set t k true)) (sym same) here)
    e

-- one after the other, where no word is stored twice
pub marks_then : (a b c : List ℕ) (t u v : List Bool) → ((i : ℕ) → (get_or a i 0 ≡ get_or b i 0) ⊎ (get_or b i 0 ≡ get_or c i 0)) → MarksThese (Differs a b) t u → MarksThese (Differs b c) u v → MarksThese (Differs a c) t v
marks_then a b c t u v once first second line = (
  λ is. ⊎_elim
      (λ was. ⊎_elim (λ w. inl w) (λ (d : Differs a b line). inr (d.0, d.1, λ e. ⊎_elim (λ same. d.2 same) (λ same. d.2 (e ∙ sym same)) (once d.0))) ((first line).0 was))
      (λ (d : Differs b c line). inr (d.0, d.1, λ e. ⊎_elim (λ same. d.2 (sym same ∙ e)) (λ same. d.2 same) (once d.0)))
      ((second line).0 is),
  λ e. ⊎_elim
      (λ was. (second line).1 (inl ((first line).1 (inl was))))
      (λ (d : Differs a c line). ⊎_elim
      (λ same. (second line).1 (inr (d.0, d.1, λ f. d.2 (same ∙ f))))
      (λ same. (second line).1 (inl ((first line).1 (inr (d.0, d.1, λ f. d.2 (f ∙ same))))))
      (once d.0))
      e,
)

-- one word more of a piece
pub marks_more : (xs ys zs words : List ℕ) (from i w : ℕ) (t u v : List Bool) → from + length words ≤ length xs → i < length words → ys ≡ spliced xs from (take i words) → zs ≡ set ys (from + i) w
    → MarksThese (Differs xs ys) t u → MarksThese (Differs ys zs) u v → MarksThese (Differs xs zs) t v
marks_more xs ys zs words from i w t u v fits low front next first second =
    let one : length (take i words) ≡ i = length-take-le i words (omega (arith, low)) in
    marks_then xs ys zs t u v (λ j. ⊎_elim
    (λ (same : j ≡ from + i).
    inl (sym (ap (λ l. get_or l j 0) front ∙ get_or-spliced_outside xs from (take i words) j 0 (omega (arith, one, fits, low)) (inr (omega (arith, one, same))))))
    (λ (other : j ≢ from + i). inr (sym (ap (λ l. get_or l j 0) next ∙ get_or-set_other ys (from + i) j w 0 other)))
    (cases_eq j (from + i))) first second

-- the text of a kernel and the zeros behind it, and the word of the commit number once more
pub marks_text : (sh : Shape) (a b c d kernel zeros : List ℕ) (w : ℕ) (t u v z : List Bool) → sh.size % 16 ≡ 0 → 16 ≤ sh.kernel → length kernel ≡ sh.kernel → sh.size + sh.kernel + length zeros ≤ length a → sh.size / 16 < length v
    → b ≡ spliced a sh.size kernel → c ≡ spliced b (sh.size + sh.kernel) zeros → d ≡ set c (sh.size + commit_at) w → w ≡ get_or kernel commit_at 0 → z ≡ set v ((sh.size + commit_at) / 16) true
    → MarksThese (Differs a b) t u → MarksThese (Differs b c) u v → MarksThese (OfText sh a d) t z
marks_text sh a b c d kernel zeros w t u v z whole some many fits low b_is c_is d_is w_is z_is first second =
    let b_long : length b ≡ length a = ap length b_is ∙ length-spliced a sh.size kernel (omega (arith, many, fits)) in
    let both : MarksThese (Differs a c) t v = marks_then a b c t u v (λ j. ⊎_elim
    (λ (before : j < sh.size + sh.kernel). inr (sym (ap (λ l. get_or l j 0) c_is ∙ get_or-spliced_outside b (sh.size + sh.kernel) zeros j 0 (omega (arith, b_long, fits)) (inl before))))
    (λ (behind : sh.size + sh.kernel ≤ j). inl (sym (ap (λ l. get_or l j 0) b_is ∙ get_or-spliced_outside a sh.size kernel j 0 (omega (arith, many, fits)) (inr (omega (arith, many, behind))))))
    (cases_lt j (sh.size + sh.kernel))) first second in
    let at = sh.size + commit_at in
    let index : at - sh.size ≡ commit_at = omega arith in
    let there : get_or c at 0 ≡ w =
    ap (λ l. get_or l at 0) c_is ∙ get_or-spliced_outside b (sh.size + sh.kernel) zeros at 0 (omega (arith, b_long, fits)) (inl (omega (arith, some)))
    ∙ ap (λ l. get_or l at 0) b_is ∙ get_or-spliced_inside a sh.size kernel at 0 (omega (arith, many, fits)) (omega arith) (omega (arith, many, some)) ∙ ap (λ n. get_or kernel n 0) index ∙ sym w_is in
    let same : d ≡ c = d_is ∙ ap (set c at) (sym there) ∙ set-get_or c at 0 in
    let line_is : at / 16 ≡ sh.size / 16 = omega (arith, whole) in
    let marks : z ≡ set v (sh.size / 16) true = z_is ∙ ap (λ n. set v n true) line_is in
    subst (λ (l : List Bool). MarksThese (OfText sh a d) t l) (sym marks) (subst (λ (l : List ℕ). MarksThese (OfText sh a l) t (set v (sh.size / 16) true)) (sym same) (λ line. (
      λ is. ⊎_elim
          (λ was. ⊎_elim (λ old. inl old) (λ (e : Differs a c line). inr (inl e)) ((both line).0 was))
          (λ (here : line ≡ sh.size / 16). inr (inr here))
          (marks_one v (sh.size / 16) line low is),
      λ e. one_marked v (sh.size / 16) line low (⊎_elim
          (λ was. inl ((both line).1 (inl was)))
          (λ (of : OfText sh a c line). ⊎_elim (λ (e : Differs a c line). inl ((both line).1 (inr e))) (λ here. inr here) of)
          e),
    )))
