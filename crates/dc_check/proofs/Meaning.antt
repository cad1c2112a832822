-- An output whose lines all end differs nowhere exactly where its lines are those of the run, but for repeats.
use Rattle.std.proofs.Common.{◌≡◌, ◌∙◌, ◌↔◌, ℕ, zero, suc, true, false, List, [], ◌∷◌, ◌++◌, Option, Some, None, IfSome, ap, sym, refl, subst, drop, is_some, slice_get, ⊎_elim}
use Rattle.std.specs.Str.{bytes_eq}
use Rattle.std.proofs.lemmas.Bool.{cases_Bool}
use Rattle.std.proofs.lemmas.Slice.Eq.{bytes_eq-Decides}
use Rattle.dc_words.specs.Texts.{ended, lines_of}
use Rattle.dc_check.specs.Differences.{AreLinesOf, RepeatsSame, SameByNumbers, Seen, difference_from, difference_of, noted, repeated, thinned, unlike}
use Rattle.dc_check.specs.Records.{numbers_in}
use Rattle.dc_check.proofs.Thinned.{all_ended, difference_on, like, none_of, thinned_is}

pub same_is : (line : List ℕ) → bytes_eq line line ≡ true
same_is line = (bytes_eq-Decides line line).1 refl

-- a line that equals the wanted one
unlike_none : (number : ℕ) (line wanted : List ℕ) → line ≡ wanted → unlike number line (Some wanted) ≡ None
unlike_none number line wanted is = rw (sym is, same_is line) refl

repeats_are : (number : ℕ) (line : List ℕ) (o : Option (List ℕ)) → is_some o ≡ true → unlike number line o ≡ None → IfSome o (λ first. line ≡ first)
repeats_are number line None some e = tt
repeats_are number line (Some first) some e = like number line first e

none_repeats : (line : List ℕ) (o : Option (List ℕ)) → is_some o ≡ false → IfSome o (λ first. line ≡ first)
none_repeats line None none = tt
none_repeats line (Some first) none = absurd (let never : ⊥ = cc in never)

-- where nothing differs repeats are the same
same_from : (number : ℕ) (seen : Seen) (wanted lines : List (List ℕ)) → difference_from number seen wanted (lines ++ [] ∷ []) ≡ None → RepeatsSame seen lines
same_from number seen wanted [] e = tt
same_from number seen wanted (line ∷ lines) e = ⊎_elim
    (λ came. let parts = none_of (unlike number line (repeated seen line)) (difference_from (suc number) seen wanted (lines ++ [] ∷ [])) (sym (difference_on number seen wanted lines line ∙ rw came refl) ∙ e) in
    (repeats_are number line (repeated seen line) came parts.0, rw came (same_from (suc number) seen wanted lines parts.1)))
    (λ new. let parts = none_of (unlike number line (slice_get wanted 0)) (difference_from (suc number) (noted (numbers_in line) line seen) (drop 1 wanted) (lines ++ [] ∷ [])) (sym (difference_on number seen wanted lines line ∙ rw new refl) ∙ e) in
    (none_repeats line (repeated seen line) new, rw new (same_from (suc number) (noted (numbers_in line) line seen) (drop 1 wanted) lines parts.1)))
    (cases_Bool (is_some (repeated seen line)))

unlike_repeat : (number : ℕ) (line : List ℕ) (o : Option (List ℕ)) → is_some o ≡ true → IfSome o (λ first. line ≡ first) → unlike number line o ≡ None
unlike_repeat number line None some is = absurd (let never : ⊥ = cc in never)
unlike_repeat number line (Some first) some is = unlike_none number line first is

-- lines without repeats, by the first line
module _ (seen : Seen) (line : List ℕ) (lines : List (List ℕ)) where
  thinned_old : is_some (repeated seen line) ≡ true → thinned seen (line ∷ lines) ≡ thinned seen lines
  thinned_old came = rw came refl

  thinned_new : is_some (repeated seen line) ≡ false → thinned seen (line ∷ lines) ≡ line ∷ thinned (noted (numbers_in line) line seen) lines
  thinned_new new = rw new refl

-- and where they are, and the others are those that are wanted, nothing differs
none_from : (number : ℕ) (seen : Seen) (lines : List (List ℕ)) → RepeatsSame seen lines → difference_from number seen (thinned seen lines) (lines ++ [] ∷ []) ≡ None
none_from number seen [] same = refl
none_from number seen (line ∷ lines) same = ⊎_elim
    (λ came. ap (λ wanted. difference_from number seen wanted (line ∷ (lines ++ [] ∷ []))) (thinned_old seen line lines came)
    ∙ difference_on number seen (thinned seen lines) lines line ∙ rw (came, unlike_repeat number line (repeated seen line) came same.0) (none_from (suc number) seen lines (rw came at same.1)))
    (λ new. ap (λ wanted. difference_from number seen wanted (line ∷ (lines ++ [] ∷ []))) (thinned_new seen line lines new)
    ∙ difference_on number seen (line ∷ thinned (noted (numbers_in line) line seen) lines) lines line ∙ rw (new, unlike_none number line line refl) (none_from (suc number) (noted (numbers_in line) line seen) lines (rw new at same.1)))
    (cases_Bool (is_some (repeated seen line)))

-- a line before others, and those of them that have its numbers
abbrev Follows : List ℕ → List (List ℕ) → Type 0
Follows line lines = (j : ℕ) (b numbers : List ℕ) → slice_get lines j ≡ Some b → numbers_in line ≡ Some numbers → numbers_in b ≡ Some numbers → b ≡ line

-- lines that agree with those that were seen
abbrev Agrees : Seen → List (List ℕ) → Type 0
Agrees seen lines = (j : ℕ) (b numbers : List ℕ) → slice_get lines j ≡ Some b → numbers_in b ≡ Some numbers → IfSome (seen numbers) (λ first. b ≡ first)

same_cons : (line : List ℕ) (lines : List (List ℕ)) → Follows line lines → SameByNumbers lines → SameByNumbers (line ∷ lines)
same_cons line lines follows same zero zero a b numbers at at' has has' = let first : line ≡ a = cc in let second : line ≡ b = cc in sym first ∙ second
same_cons line lines follows same zero (suc j) a b numbers at at' has has' = let first : line ≡ a = cc in sym (follows j b numbers at' (ap numbers_in first ∙ has) has' ∙ first)
same_cons line lines follows same (suc i) zero a b numbers at at' has has' = let first : line ≡ b = cc in follows i a numbers at (ap numbers_in first ∙ has') has ∙ first
same_cons line lines follows same (suc i) (suc j) a b numbers at at' has has' = same i j a b numbers at at' has has'

same_head : (line : List ℕ) (lines : List (List ℕ)) → SameByNumbers (line ∷ lines) → Follows line lines
same_head line lines same = λ j b numbers at has has'. same (suc j) zero b line numbers at refl has' has

same_tail : (line : List ℕ) (lines : List (List ℕ)) → SameByNumbers (line ∷ lines) → SameByNumbers lines
same_tail line lines same = λ i j a b numbers at at' has has'. same (suc i) (suc j) a b numbers at at' has has'

agrees_cons : (seen : Seen) (line : List ℕ) (lines : List (List ℕ)) → ((numbers : List ℕ) → numbers_in line ≡ Some numbers → IfSome (seen numbers) (λ first. line ≡ first)) → Agrees seen lines → Agrees seen (line ∷ lines)
agrees_cons seen line lines here rest zero b numbers at has = let first : line ≡ b = cc in subst (λ (x : List ℕ). IfSome (seen numbers) (λ y. x ≡ y)) first (here numbers (ap numbers_in first ∙ has))
agrees_cons seen line lines here rest (suc j) b numbers at has = rest j b numbers at has

-- of a line without numbers nothing is seen
module _ (seen : Seen) (line : List ℕ) (lines : List (List ℕ)) where
  bare : numbers_in line ≡ None → RepeatsSame seen (line ∷ lines) → RepeatsSame seen lines
  bare none same = rw none at same.1

  bare_back : numbers_in line ≡ None → RepeatsSame seen lines → RepeatsSame seen (line ∷ lines)
  bare_back none same = rw none (tt, same)

  -- one whose numbers were not seen
  new : (ns : List ℕ) → numbers_in line ≡ Some ns → seen ns ≡ None → RepeatsSame seen (line ∷ lines) → RepeatsSame (noted (Some ns) line seen) lines
  new ns has none same = rw (has, none) at same.1

  new_back : (ns : List ℕ) → numbers_in line ≡ Some ns → seen ns ≡ None → RepeatsSame (noted (Some ns) line seen) lines → RepeatsSame seen (line ∷ lines)
  new_back ns has none same = rw (has, none) (tt, same)

  -- one whose numbers were
  old : (ns first : List ℕ) → numbers_in line ≡ Some ns → seen ns ≡ Some first → RepeatsSame seen (line ∷ lines) → (line ≡ first) × RepeatsSame seen lines
  old ns first has was same = rw (has, was) at same

  old_back : (ns first : List ℕ) → numbers_in line ≡ Some ns → seen ns ≡ Some first → line ≡ first → RepeatsSame seen lines → RepeatsSame seen (line ∷ lines)
  old_back ns first has was is same = rw (has, was) (is, same)

-- what is seen with a line more
noted_same : (seen : Seen) (line ns : List ℕ) → noted (Some ns) line seen ns ≡ Some line
noted_same seen line ns = rw (same_is ns) refl

noted_on : (seen : Seen) (line ns numbers b : List ℕ) → seen ns ≡ None → IfSome (noted (Some ns) line seen numbers) (λ first. b ≡ first) → IfSome (seen numbers) (λ first. b ≡ first)
noted_on seen line ns numbers b none is = ⊎_elim
    (λ yes. let same = (bytes_eq-Decides ns numbers).0 yes in subst (λ (o : Option (List ℕ)). IfSome o (λ first. b ≡ first)) (sym none ∙ ap seen same) tt)
    (λ no. rw no at is)
    (cases_Bool (bytes_eq ns numbers))

noted_back : (seen : Seen) (line ns numbers b : List ℕ) → (ns ≡ numbers → b ≡ line) → IfSome (seen numbers) (λ first. b ≡ first) → IfSome (noted (Some ns) line seen numbers) (λ first. b ≡ first)
noted_back seen line ns numbers b here is = ⊎_elim
    (λ yes. rw yes (here ((bytes_eq-Decides ns numbers).0 yes)))
    (λ no. rw no is)
    (cases_Bool (bytes_eq ns numbers))

pub some_is : {A : Type 0} (a b : A) → Some a ≡ Some b → a ≡ b
some_is a b e = cc

if_first : (o : Option (List ℕ)) (b first : List ℕ) → o ≡ Some first → IfSome o (λ x. b ≡ x) → b ≡ first
if_first o b first is holds = rw is at holds

walk_same : (seen : Seen) (lines : List (List ℕ)) → RepeatsSame seen lines → Agrees seen lines × SameByNumbers lines
walk_same seen [] same = (λ j b numbers at has. absurd (let never : ⊥ = cc in never), λ i j a b numbers at at' has has'. absurd (let never : ⊥ = cc in never))
walk_same seen (line ∷ lines) same = by_numbers (λ s on. walk_same s lines on) (numbers_in line) refl
  where
    by_seen : ((s : Seen) → RepeatsSame s lines → Agrees s lines × SameByNumbers lines) → (ns : List ℕ) → numbers_in line ≡ Some ns → (o : Option (List ℕ)) → seen ns ≡ o → Agrees seen (line ∷ lines) × SameByNumbers (line ∷ lines)
    by_seen rest ns has None was = let later = rest (noted (Some ns) line seen) (new seen line lines ns has was same) in (
      agrees_cons seen line lines (λ numbers is. subst (λ (o : Option (List ℕ)). IfSome o (λ first. line ≡ first)) (sym was ∙ ap seen (some_is ns numbers (sym has ∙ is))) tt)
          (λ j b numbers at is. noted_on seen line ns numbers b was (later.0 j b numbers at is)),
      same_cons line lines (λ j b numbers at is is'. if_first (noted (Some ns) line seen numbers) b line (ap (noted (Some ns) line seen) (sym (some_is ns numbers (sym has ∙ is))) ∙ noted_same seen line ns) (later.0 j b numbers at is')) later.1,
    )
    by_seen rest ns has (Some first) was = let here = old seen line lines ns first has was same in let later = rest seen here.1 in (
      agrees_cons seen line lines (λ numbers is. subst (λ (o : Option (List ℕ)). IfSome o (λ x. line ≡ x)) (sym was ∙ ap seen (some_is ns numbers (sym has ∙ is))) here.0) later.0,
      same_cons line lines (λ j b numbers at is is'. if_first (seen numbers) b first (ap seen (sym (some_is ns numbers (sym has ∙ is))) ∙ was) (later.0 j b numbers at is') ∙ sym here.0) later.1,
    )

    by_numbers : ((s : Seen) → RepeatsSame s lines → Agrees s lines × SameByNumbers lines) → (o : Option (List ℕ)) → numbers_in line ≡ o → Agrees seen (line ∷ lines) × SameByNumbers (line ∷ lines)
    by_numbers rest None none = let later = rest seen (bare seen line lines none same) in (
      agrees_cons seen line lines (λ numbers is. let never : None ≡ Some numbers = sym none ∙ is in absurd (let no_way : ⊥ = cc in no_way)) later.0,
      same_cons line lines (λ j b numbers at is is'. let never : None ≡ Some numbers = sym none ∙ is in absurd (let no_way : ⊥ = cc in no_way)) later.1,
    )
    by_numbers rest (Some ns) has = by_seen rest ns has (seen ns) refl

walk_back : (seen : Seen) (lines : List (List ℕ)) → Agrees seen lines → SameByNumbers lines → RepeatsSame seen lines
walk_back seen [] agrees same = tt
walk_back seen (line ∷ lines) agrees same = by_numbers (λ s on. walk_back s lines on (same_tail line lines same)) (numbers_in line) refl
  where
    tail : Agrees seen lines
    tail = λ j b numbers at has. agrees (suc j) b numbers at has

    by_seen : ((s : Seen) → Agrees s lines → RepeatsSame s lines) → (ns : List ℕ) → numbers_in line ≡ Some ns → (o : Option (List ℕ)) → seen ns ≡ o → RepeatsSame seen (line ∷ lines)
    by_seen rest ns has None was = new_back seen line lines ns has was (rest (noted (Some ns) line seen) (λ j b numbers at is.
        noted_back seen line ns numbers b (λ e. same_head line lines same j b ns at has (is ∙ ap (λ (x : List ℕ). Some x) (sym e))) (agrees (suc j) b numbers at is)))
    by_seen rest ns has (Some first) was = old_back seen line lines ns first has was (if_first (seen ns) line first was (agrees zero line ns refl has)) (rest seen (λ j b numbers at is. agrees (suc j) b numbers at is))

    by_numbers : ((s : Seen) → Agrees s lines → RepeatsSame s lines) → (o : Option (List ℕ)) → numbers_in line ≡ o → RepeatsSame seen (line ∷ lines)
    by_numbers rest None none = bare_back seen line lines none (rest seen (λ j b numbers at is. agrees (suc j) b numbers at is))
    by_numbers rest (Some ns) has = by_seen rest ns has (seen ns) refl

pub passes_exactly : (text out : List ℕ) → out ≡ ended (lines_of out) → (difference_of text out ≡ None) ↔ AreLinesOf (lines_of out) (lines_of text)
passes_exactly text out whole = (
  λ e. let walked : difference_from 1 (λ numbers. None) (lines_of text) (lines_of out ++ [] ∷ []) ≡ None = ap (difference_from 1 (λ numbers. None) (lines_of text)) (sym (all_ended out whole)) ∙ e in record {
    thinned_are = thinned_is 1 (λ numbers. None) (lines_of text) (lines_of out) walked;
    same = (walk_same (λ numbers. None) (lines_of out) (same_from 1 (λ numbers. None) (lines_of text) (lines_of out) walked)).1;
  },
  λ are. ap (difference_from 1 (λ numbers. None) (lines_of text)) (all_ended out whole)
      ∙ ap (λ wanted. difference_from 1 (λ numbers. None) wanted (lines_of out ++ [] ∷ [])) (sym are.thinned_are)
      ∙ none_from 1 (λ numbers. None) (lines_of out) (walk_back (λ numbers. None) (lines_of out) (λ j b numbers at has. tt) are.same),
)
