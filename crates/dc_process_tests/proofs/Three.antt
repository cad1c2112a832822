-- Three stores, for the tests.
use Rattle.std.proofs.Common.{◌≡◌, ◌∙◌, ◌+◌, ◌++◌, ℕ, zero, suc, List, [], ◌∷◌, length, take, drop, sym, ap, arith, ◌<◌, subst, length-append}
use Rattle.std.proofs.lemmas.Option.{slice_get_within}
use Rattle.dc_checkpoint.specs.States.{Form, IsText, number_in}
use Rattle.dc_process_tests.specs.Three.{AreFitThree, AreTexts}
use Rattle.std.proofs.lemmas.List.{append_assoc, drop_at, take_all, take_at}
use Rattle.dc_checkpoint.specs.declared.checkpoint.Checkpoint as checkpoint
use Rattle.dc_checkpoint.specs.Handles.{IsSame}
use Rattle.dc_kernel.specs.declared.saved.Saved.{Saved}
use Rattle.dc_twophase.specs.Recoveries.{AreFit}
use Rattle.dc_twophase.specs.Stores.{AreApart, AreOf, Each, EachPair, Takes, text_at}
use Rattle.dc_twophase.proofs.Pairs.{before_it}

-- what holds of three holds of each
pub each_three : {C : Type 0} (R : ℕ → C → Type 0) (a b c : C) → R 0 a → R 1 b → R 2 c → Each (a ∷ b ∷ c ∷ []) R
each_three R a b c first second third zero x is = let e : a ≡ x = cc in subst (R 0) e first
each_three R a b c first second third (suc zero) x is = let e : b ≡ x = cc in subst (R 1) e second
each_three R a b c first second third (suc (suc zero)) x is = let e : c ≡ x = cc in subst (R 2) e third
each_three R a b c first second third (suc (suc (suc i))) x is = absurd cc

module _ {C D : Type 0} (store : checkpoint.Ghosts C D) (old new : List C) (long : length new ≡ length old) (same : EachPair old new (λ i. IsSame store)) where
  pub apart_still : AreApart store old → AreApart store new
  apart_still apart i j b c at there ne e =
      let x = before_it old new i b long at in
      let y = before_it old new j c long there in
      apart i j x.0 y.0 x.1 y.1 ne (sym (same i x.0 b x.1 at).index_same ∙ e ∙ (same j y.0 c y.1 there).index_same)

  pub forms_still : AreOf store old → AreOf store new
  forms_still forms i c at =
      let x = before_it old new i c long at in
      let form = (same i x.0 c x.1 at).form_same in
      let was = forms i x.0 x.1 in
      (ap (λ f. f.p) form ∙ was.0, ap (λ f. f.n) form ∙ was.1 ∙ sym long)

  pub fit_still : (saved : List Saved) → AreFit store old saved → AreFit store new saved
  fit_still saved fit i c v at there =
      let x = before_it old new i c long at in
      let form = (same i x.0 c x.1 at).form_same in
      let was = fit i x.0 v x.1 there in
      record { n = was.n ∙ sym (ap (λ f. f.n) form); p = was.p ∙ sym (ap (λ f. f.p) form); room = was.room }

-- the texts in a row
pub first_text : (a b c : List ℕ) → length a ≡ 458 → text_at 458 (a ++ b ++ c) 0 ≡ a
first_text a b c long = ap (take 458) (append_assoc a b c) ∙ take_at a (b ++ c) 458 long

pub second_text : (a b c : List ℕ) → length a ≡ 458 → length b ≡ 458 → text_at 458 (a ++ b ++ c) 1 ≡ b
second_text a b c long more = ap (λ xs. take 458 (drop 458 xs)) (append_assoc a b c) ∙ ap (take 458) (drop_at a (b ++ c) 458 long) ∙ take_at b c 458 more

pub third_text : (a b c : List ℕ) → length (a ++ b) ≡ 916 → length c ≡ 458 → text_at 458 (a ++ b ++ c) 2 ≡ c
third_text a b c long more = ap (take 458) (drop_at (a ++ b) c 916 long) ∙ take_all 458 c (omega (arith, more))

module _ (a b c words : List ℕ) (row : words ≡ a ++ b ++ c) (first : length a ≡ 458) (second : length b ≡ 458) (third : length c ≡ 458) where
  two : length (a ++ b) ≡ 916
  two = length-append a b ∙ (let sum : length a + length b ≡ 916 = omega (arith, first, second) in sum)

  pub texts_are : IsText (record { n = 3; p = 0 }) a → IsText (record { n = 3; p = 1 }) b → IsText (record { n = 3; p = 2 }) c → number_in a ≡ 2 → number_in b ≡ 2 → number_in c ≡ 2 → AreTexts words
  texts_are ta tb tc na nb nc = record {
    long = ap length row ∙ length-append (a ++ b) c ∙ (let sum : length (a ++ b) + length c ≡ 1374 = omega (arith, two, third) in sum);
    text = λ p low. text_is p low;
    number = λ p low. number_is p low;
  }
    where
      text_is : (p : ℕ) → p < 3 → IsText (record { n = 3; p = p }) (text_at 458 words p)
      text_is zero low = rw (row, first_text a b c first) ta
      text_is (suc zero) low = rw (row, second_text a b c first second) tb
      text_is (suc (suc zero)) low = rw (row, third_text a b c two third) tc
      text_is (suc (suc (suc p))) low = absurd (omega arith)

      number_is : (p : ℕ) → p < 3 → number_in (text_at 458 words p) ≡ 2
      number_is zero low = ap (λ ws. number_in (text_at 458 ws 0)) row ∙ ap number_in (first_text a b c first) ∙ na
      number_is (suc zero) low = ap (λ ws. number_in (text_at 458 ws 1)) row ∙ ap number_in (second_text a b c first second) ∙ nb
      number_is (suc (suc zero)) low = ap (λ ws. number_in (text_at 458 ws 2)) row ∙ ap number_in (third_text a b c two third) ∙ nc
      number_is (suc (suc (suc p))) low = absurd (omega arith)

-- each store takes its text
pub takes_texts : {C D : Type 0} (store : checkpoint.Ghosts C D) (stores : List C) (words : List ℕ) (size : ℕ) → length stores ≡ 3 → size ≡ 458 → AreTexts words → AreOf store stores
    → Each stores (λ i. Takes store (text_at size words i) 2)
takes_texts store stores words size three is texts forms i c at =
    let within = slice_get_within stores i c at in
    let low : i < 3 = omega (arith, within, three) in
    let form : store.form c ≡ record { n = 3; p = i } = form_is (store.form c) i (forms i c at).0 ((forms i c at).1 ∙ three) in
    rw (is, form) (texts.text i low, texts.number i low)
  where
    form_is : (form : Form) (p : ℕ) → form.p ≡ p → form.n ≡ 3 → form ≡ record { n = 3; p = p }
    form_is form p x y = ap (λ (n : ℕ). let made : Form = record { n = n; p = form.p } in made) y ∙ ap (λ (k : ℕ). let made : Form = record { n = 3; p = k } in made) x

pub fits_three : {C D : Type 0} (store : checkpoint.Ghosts C D) (stores : List C) (saved : List Saved) → length stores ≡ 3 → AreFitThree saved → AreOf store stores → AreFit store stores saved
fits_three store stores saved three fit forms i c v at there =
    let was = fit.fit i v there in
    record { n = was.n ∙ sym ((forms i c at).1 ∙ three); p = was.p ∙ sym (forms i c at).0; room = was.room }
