-- The counts of acts, as acts are added and cut.
use Rattle.std.proofs.Common.{◌≡◌, ◌≢◌, ◌∙◌, ◌+◌, ◌-◌, ◌^◌, ◌<◌, ◌≤◌, ℕ, suc, List, [], ◌∷◌, ◌++◌, length, reverse, min, take, drop, set, get_or, slice_index, slice_index_or, slice_set, ap, sym, subst, refl, arith, ⊎_elim, length-append, length-take, add-one, drop-cons}
use Rattle.std.proofs.lemmas.Bool.{cases_eq}
use Rattle.std.proofs.lemmas.List.{reverse-append, reverse-reverse, length-reverse, get_or-set_same, get_or-set_other, length-set, take_all, take_more, take_more_set, drop-set-lt}
use Rattle.dc_model.specs.Cuts.{cut, reach_of}
use Rattle.dc_model.specs.declared.act.Taken.{Taken}
use Rattle.dc_acts.specs.Counted.{AreCounted, acts_of, cut_acts}
use Rattle.dc_acts.proofs.Cutting.{count_all, count_cut, cut_none, count_here, count_joined, count_other, count_turned, kept_here, left_out, length_cut, reach_here, reach_other}

-- one act more
pub counted_more : (counts : List ℕ) (acts after : List Taken) (x : Taken) → length counts ≡ 8 → x.p < 8 → length acts < 2 ^ 32 - 1
    → AreCounted counts acts → after ≡ acts ++ x ∷ [] → AreCounted (slice_set counts x.p (slice_index_or counts x.p 0 + 1)) after
counted_more counts acts after x eight low few are e = record {
  each = λ q. ⊎_elim
      (λ (same : q ≡ x.p). ap (λ k. get_or (set counts x.p (get_or counts x.p 0 + 1)) k 0) same ∙ get_or-set_same counts x.p (get_or counts x.p 0 + 1) 0 (omega arith) ∙ here q same)
      (λ (ne : q ≢ x.p). get_or-set_other counts x.p q (get_or counts x.p 0 + 1) 0 ne ∙ are.each q ∙ there q ne)
      (cases_eq q x.p);
  few = omega (arith, ap length e, length-append acts (x ∷ []), few);
}
  where
    more : (q : ℕ) → acts_of q after ≡ acts_of q acts + acts_of q (x ∷ [])
    more q = ap (acts_of q) e ∙ count_joined (λ (y : Taken). y.p) q acts (x ∷ [])

    here : (q : ℕ) → q ≡ x.p → get_or counts x.p 0 + 1 ≡ acts_of q after
    here q same = omega (arith, more q, are.each x.p, ap (λ k. acts_of k acts) same, count_here (λ (y : Taken). y.p) q x [] (sym same))

    there : (q : ℕ) → q ≢ x.p → acts_of q acts ≡ acts_of q after
    there q ne = omega (arith, more q, count_other (λ (y : Taken). y.p) q x [] (λ e. ne (sym e)))

-- the acts that stay of the first i
abbrev pub kept_of : ℕ → ℕ → List Taken → ℕ → List Taken
kept_of p reach acts i = reverse (cut (λ (y : Taken). y.p) (reach_of p reach (length acts)) (reverse (take i acts)))

-- how many acts of each process stay
pub acts_cut : (p reach q : ℕ) (acts : List Taken) → acts_of q (cut_acts p reach acts) ≡ min (acts_of q acts) (reach_of p reach (length acts) q)
acts_cut p reach q acts = count_turned (λ (y : Taken). y.p) q (cut (λ (y : Taken). y.p) (reach_of p reach (length acts)) (reverse acts))
    ∙ count_cut (λ (y : Taken). y.p) (reach_of p reach (length acts)) q (reverse acts)
    ∙ ap (λ n. min n (reach_of p reach (length acts) q)) (count_turned (λ (y : Taken). y.p) q acts)

pub own_cut : (p reach : ℕ) (acts : List Taken) → acts_of p (cut_acts p reach acts) ≡ min (acts_of p acts) reach
own_cut p reach acts = acts_cut p reach p acts ∙ ap (min (acts_of p acts)) (reach_here p reach (length acts) p refl)

pub other_cut : (p reach q : ℕ) (acts : List Taken) → q ≢ p → acts_of q (cut_acts p reach acts) ≡ acts_of q acts
other_cut p reach q acts ne = let all = count_all (λ (y : Taken). y.p) q acts in
    omega (arith, acts_cut p reach q acts, reach_other p reach (length acts) q ne, all)

-- the counts after a cut
pub counted_cut : (counts after : List ℕ) (acts left : List Taken) (p reach : ℕ) → AreCounted counts acts → left ≡ cut_acts p reach acts
    → slice_index after p ≡ min (slice_index counts p) reach → ((q : ℕ) → q ≢ p → slice_index after q ≡ slice_index counts q) → AreCounted after left
counted_cut counts after acts left p reach are e own others = record {
  each = λ q. ⊎_elim
      (λ (same : q ≡ p). subst (λ k. slice_index after k ≡ acts_of k left) (sym same) at_p)
      (λ (ne : q ≢ p). others q ne ∙ are.each q ∙ sym (ap (acts_of q) e ∙ other_cut p reach q acts ne))
      (cases_eq q p);
  few = omega (
    arith,
    ap length e,
    length-reverse (cut (λ (y : Taken). y.p) (reach_of p reach (length acts)) (reverse acts)),
    length_cut (λ (y : Taken). y.p) (reach_of p reach (length acts)) (reverse acts),
    length-reverse acts,
    are.few,
  );
}
  where
    at_p : slice_index after p ≡ acts_of p left
    at_p = own ∙ ap (λ n. min n reach) (are.each p) ∙ sym (ap (acts_of p) e ∙ own_cut p reach acts)

-- the loop of a cut at the act x of position i
module _ (p reach i : ℕ) (acts : List Taken) (x d : Taken) (within : i < length acts) (here : x ≡ get_or acts i d) where
  turned : reverse (take (i + 1) acts) ≡ x ∷ reverse (take i acts)
  turned = ap reverse (take_more acts i d within ∙ ap (λ y. take i acts ++ y ∷ []) (sym here)) ∙ reverse-append (take i acts) (x ∷ [])

  kept_next : kept_of p reach acts (i + 1) ≡ reverse (cut (λ (y : Taken). y.p) (reach_of p reach (length acts)) (x ∷ reverse (take i acts)))
  kept_next = ap (λ ys. reverse (cut (λ (y : Taken). y.p) (reach_of p reach (length acts)) ys)) turned

  so_many : (q : ℕ) → acts_of q (reverse (take i acts)) ≡ acts_of q (take i acts)
  so_many q = count_turned (λ (y : Taken). y.p) q (take i acts)

  kept_one : acts_of x.p (take i acts) < reach_of p reach (length acts) x.p → kept_of p reach acts (i + 1) ≡ kept_of p reach acts i ++ x ∷ []
  kept_one low = kept_next
      ∙ ap reverse (kept_here (λ (y : Taken). y.p) (reach_of p reach (length acts)) x (reverse (take i acts)) (omega (arith, so_many x.p, low)))
      ∙ reverse-append (x ∷ []) (cut (λ (y : Taken). y.p) (reach_of p reach (length acts)) (reverse (take i acts)))

  kept_other : x.p ≢ p → kept_of p reach acts (i + 1) ≡ kept_of p reach acts i ++ x ∷ []
  kept_other ne = let all = count_all (λ (y : Taken). y.p) x.p (take i acts) in
      kept_one (omega (arith, reach_other p reach (length acts) x.p ne, all, length-take i acts, within))

  kept_not : x.p ≡ p → reach ≤ acts_of p (take i acts) → kept_of p reach acts (i + 1) ≡ kept_of p reach acts i
  kept_not e high = kept_next
      ∙ ap reverse (left_out (λ (y : Taken). y.p) (reach_of p reach (length acts)) x (reverse (take i acts))
      (omega (arith, so_many x.p, reach_here p reach (length acts) x.p e, ap (λ q. acts_of q (take i acts)) e, high)))

  count_next : (q : ℕ) → acts_of q (take (i + 1) acts) ≡ acts_of q (take i acts) + acts_of q (x ∷ [])
  count_next q = ap (acts_of q) (take_more acts i d within ∙ ap (λ y. take i acts ++ y ∷ []) (sym here)) ∙ count_joined (λ (y : Taken). y.p) q (take i acts) (x ∷ [])

  own_here : x.p ≡ p → acts_of p (take (i + 1) acts) ≡ acts_of p (take i acts) + 1
  own_here e = omega (arith, count_next p, count_here (λ (y : Taken). y.p) p x [] e)

  own_other : x.p ≢ p → acts_of p (take (i + 1) acts) ≡ acts_of p (take i acts)
  own_other ne = omega (arith, count_next p, count_other (λ (y : Taken). y.p) p x [] ne)

-- of the first i acts those that stay have moved up, and what is left is as it was
pub record IsCutTo (p reach i : ℕ) (was acts : List Taken) (kept own : ℕ) : Type 0 where
  pub stay : take kept acts ≡ kept_of p reach was i
  pub rest : drop i acts ≡ drop i was
  pub own_is : own ≡ min (acts_of p (take i was)) reach
  pub behind : kept ≤ i
  pub size : length acts ≡ length was

-- nothing is taken out of acts that are no more of p than may stay
pub cut_nothing : (p reach : ℕ) (acts : List Taken) (n : ℕ) → length acts ≤ n → acts_of p acts ≤ reach → reverse (cut (λ (y : Taken). y.p) (reach_of p reach n) (reverse acts)) ≡ acts
cut_nothing p reach acts n long few = ap reverse (cut_none (λ (y : Taken). y.p) (reach_of p reach n) (reverse acts) below) ∙ reverse-reverse acts
  where
    below : (q : ℕ) → acts_of q (reverse acts) ≤ reach_of p reach n q
    below q = let turned = count_turned (λ (y : Taken). y.p) q acts in ⊎_elim
        (λ (e : q ≡ p). omega (arith, turned, ap (λ r. acts_of r acts) e, reach_here p reach n q e, few))
        (λ (ne : q ≢ p). let all = count_all (λ (y : Taken). y.p) q acts in omega (arith, turned, all, reach_other p reach n q ne, long))
        (cases_eq q p)

-- the acts before the position where a cut begins
pub cut_begun : (p start : ℕ) (was : List Taken) → start ≤ length was → IsCutTo p (acts_of p (take start was)) start was was start (acts_of p (take start was))
cut_begun p start was within = record {
  stay = sym (cut_nothing p (acts_of p (take start was)) (take start was) (length was) (omega (arith, length-take start was)) (omega arith));
  rest = refl;
  own_is = omega arith;
  behind = omega arith;
  size = refl;
}

-- the acts before one of p and behind it, from the end
pub front_next : (p i : ℕ) (acts : List Taken) (d : Taken) → i < length acts → (get_or acts i d).p ≡ p → acts_of p (take (i + 1) acts) ≡ acts_of p (take i acts) + 1
front_next p i acts d within e = own_here p 0 i acts (get_or acts i d) d within refl e

pub front_same : (p i : ℕ) (acts : List Taken) (d : Taken) → i < length acts → (get_or acts i d).p ≢ p → acts_of p (take (i + 1) acts) ≡ acts_of p (take i acts)
front_same p i acts d within ne = own_other p 0 i acts (get_or acts i d) d within refl ne

pub cut_ended : (p reach i : ℕ) (was acts : List Taken) (kept own : ℕ) → IsCutTo p reach i was acts kept own → length acts ≤ i → take kept acts ≡ cut_acts p reach was
cut_ended p reach i was acts kept own at past = at.stay
    ∙ ap (λ ys. reverse (cut (λ (y : Taken). y.p) (reach_of p reach (length was)) (reverse ys))) (take_all i was (let size = at.size in omega arith))

-- one act on
module _ (p reach i : ℕ) (was acts : List Taken) (kept own : ℕ) (x d : Taken) (at : IsCutTo p reach i was acts kept own) (within : i < length acts) (x_is : x ≡ get_or acts i d) where
  in_was : i < length was
  in_was = let size = at.size in omega arith

  in_acts : kept < length acts
  in_acts = let behind = at.behind in omega arith

  here : x ≡ get_or was i d
  here = let rest = at.rest in let first = drop-cons acts i d within in let second = drop-cons was i d in_was in cc

  left : drop (i + 1) acts ≡ drop (i + 1) was
  left = let rest = at.rest in let first = drop-cons acts i d within in let second = drop-cons was i d in_was in
      let same : drop (suc i) acts ≡ drop (suc i) was = cc in rw add-one same

  moved : kept_of p reach was (i + 1) ≡ kept_of p reach was i ++ x ∷ [] → (mine : ℕ) → mine ≡ min (acts_of p (take (i + 1) was)) reach
      → IsCutTo p reach (i + 1) was (slice_set acts kept x) (kept + 1) mine
  moved next mine mine_is = record {
    stay = take_more_set acts kept x in_acts ∙ ap (λ ys. ys ++ x ∷ []) at.stay ∙ sym next;
    rest = drop-set-lt (i + 1) acts kept x (let behind = at.behind in omega arith) ∙ left;
    own_is = mine_is;
    behind = let behind = at.behind in omega arith;
    size = length-set acts kept x ∙ at.size;
  }

  pub on_other : x.p ≢ p → IsCutTo p reach (i + 1) was (slice_set acts kept x) (kept + 1) own
  on_other ne = moved (kept_other p reach i was x d in_was here ne) own
      (at.own_is ∙ ap (λ n. min n reach) (sym (own_other p reach i was x d in_was here ne)))

  pub on_cut : x.p ≡ p → reach ≤ own → IsCutTo p reach (i + 1) was acts kept own
  on_cut e high = let own_is = at.own_is in let more = own_here p reach i was x d in_was here e in record {
    stay = at.stay ∙ sym (kept_not p reach i was x d in_was here e (omega arith));
    rest = left;
    own_is = omega arith;
    behind = let behind = at.behind in omega arith;
    size = at.size;
  }

-- the same by what the code calls things
module _ (p reach i : ℕ) (was acts now : List Taken) (kept own : ℕ) (d : Taken) (at : IsCutTo p reach i was acts kept own) (within : i < length now) (same : now ≡ acts) where
  short : i < length acts
  short = omega (arith, within, ap (λ (ys : List Taken). length ys) same)

  is : get_or now i d ≡ get_or acts i d
  is = ap (λ ys. get_or ys i d) same

  pub other_kept : (after : List Taken) → after ≡ slice_set acts kept (get_or now i d) → (get_or now i d).p ≢ p → IsCutTo p reach (i + 1) was after (kept + 1) own
  other_kept after e ne = rw e (on_other p reach i was acts kept own (get_or now i d) d at short is ne)

  pub own_left : (get_or now i d).p ≡ p → reach ≤ own → IsCutTo p reach (i + 1) was acts kept own
  own_left mine high = on_cut p reach i was acts kept own (get_or now i d) d at short is mine high
