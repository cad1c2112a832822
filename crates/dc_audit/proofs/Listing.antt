-- Lists of processes: what is left of one decides.
use Rattle.std.proofs.Common.{◌≡◌, ◌∙◌, ◌<◌, ◌≤◌, ◌+◌, ℕ, suc, Bool, true, false, List, [], ◌∷◌, replicate, arith, refl, sym, ap, Option, Some, None, Err}
use Rattle.std.proofs.Math.ListN.{set}
use Rattle.std.specs.Option.{option_map}
use Rattle.std.proofs.lemmas.Bool.{le-leb, lt-leb, lt-ltb, le-ltb}
use Rattle.dc_audit.specs.declared.fault.AuditKind.TheVariants.{Form}
use Rattle.dc_words.specs.Texts.{fields_of}
use Rattle.dc_audit.specs.Reading.{Marks, capped, commit_left, commit_of, left_or, listed, rising, rising_then}

pub commit_begun : (n : ℕ) (ps : Option (List ℕ)) → commit_of n ps ≡ commit_left n (replicate 16 false) false ps
commit_begun n None = refl
commit_begun n (Some ps) = refl

-- a process below n is marked
front_in : (n p : ℕ) (marks : List Bool) (outside : Bool) (rest : Option (List ℕ)) → p < n → commit_left n marks outside (option_map (λ ps. p ∷ ps) rest) ≡ commit_left n (set marks p true) outside rest
front_in n p marks outside None h = refl
front_in n p marks outside (Some ps) h = rw (lt-ltb p n h) refl

-- any other lets the list be none
front_out : (n p : ℕ) (marks : List Bool) (outside : Bool) (rest : Option (List ℕ)) → n ≤ p → commit_left n marks outside (option_map (λ ps. p ∷ ps) rest) ≡ commit_left n marks true rest
front_out n p marks outside None h = refl
front_out n p marks true (Some ps) h = refl
front_out n p marks false (Some ps) h = rw (le-ltb p n h) refl

rises : (low p : ℕ) (rest : ℕ → Option (List ℕ)) → low ≤ p → rising_then low (Some p) rest ≡ option_map (λ ps. p ∷ ps) (rest p)
rises low p rest h = rw (le-leb low p h) refl

falls : (low p : ℕ) (rest : ℕ → Option (List ℕ)) → p < low → rising_then low (Some p) rest ≡ None
falls low p rest h = rw (lt-leb low p h) refl

pub marks_none : (n low : ℕ) (part : List ℕ) (marks : List Bool) (outside : Bool) (marks' : List Bool) (outside' : Bool) → capped part ≡ None → Marks n low part (listed marks outside) None (listed marks' outside')
marks_none n low part marks outside marks' outside' e parts = rw e refl

pub marks_low : (n low p : ℕ) (part : List ℕ) (marks : List Bool) (outside : Bool) (marks' : List Bool) (outside' : Bool) → capped part ≡ Some p → p < low → Marks n low part (listed marks outside) None (listed marks' outside')
marks_low n low p part marks outside marks' outside' e h parts = ap (λ (x : Option ℕ). commit_left n marks outside (rising_then low x (λ q. rising (suc q) parts))) e
    ∙ ap (λ (x : Option (List ℕ)). commit_left n marks outside x) (falls low p (λ q. rising (suc q) parts) h)

pub marks_in : (n low p : ℕ) (part : List ℕ) (marks : List Bool) (outside : Bool) → capped part ≡ Some p → low ≤ p → p < n → Marks n low part (listed marks outside) (Some (p + 1)) (listed (set marks p true) outside)
marks_in n low p part marks outside e h l parts = ap (λ (x : Option ℕ). commit_left n marks outside (rising_then low x (λ q. rising (suc q) parts))) e
    ∙ ap (λ (x : Option (List ℕ)). commit_left n marks outside x) (rises low p (λ q. rising (suc q) parts) h) ∙ front_in n p marks outside (rising (suc p) parts) l
    ∙ (let s : suc p ≡ p + 1 = omega arith in ap (λ (k : ℕ). commit_left n (set marks p true) outside (rising k parts)) s)

pub marks_out : (n low p : ℕ) (part : List ℕ) (marks : List Bool) (outside : Bool) → capped part ≡ Some p → low ≤ p → n ≤ p → Marks n low part (listed marks outside) (Some (p + 1)) (listed marks true)
marks_out n low p part marks outside e h l parts = ap (λ (x : Option ℕ). commit_left n marks outside (rising_then low x (λ q. rising (suc q) parts))) e
    ∙ ap (λ (x : Option (List ℕ)). commit_left n marks outside x) (rises low p (λ q. rising (suc q) parts) h) ∙ front_out n p marks outside (rising (suc p) parts) l
    ∙ (let s : suc p ≡ p + 1 = omega arith in ap (λ (k : ℕ). commit_left n marks true (rising k parts)) s)

-- the last part of a list
last_part : (n : ℕ) (list rest : List ℕ) (low : ℕ) (result : Option ℕ) (marks : List Bool) (outside : Bool) (marks' : List Bool) (outside' : Bool)
    → commit_of n (rising 0 (fields_of 44 list)) ≡ commit_left n marks outside (rising low (fields_of 44 rest)) → fields_of 44 rest ≡ rest ∷ [] → Marks n low rest (listed marks outside) result (listed marks' outside')
    → commit_of n (rising 0 (fields_of 44 list)) ≡ left_or result (λ next. commit_left n marks' outside' (Some []))
last_part n list rest low result marks outside marks' outside' reads one m = reads ∙ ap (λ (parts : List (List ℕ)). commit_left n marks outside (rising low parts)) one ∙ m []

pub last_bad : (n : ℕ) (list rest : List ℕ) (low : ℕ) (marks : List Bool) (outside : Bool) (marks' : List Bool) (outside' : Bool)
    → commit_of n (rising 0 (fields_of 44 list)) ≡ commit_left n marks outside (rising low (fields_of 44 rest)) → fields_of 44 rest ≡ rest ∷ [] → Marks n low rest (listed marks outside) None (listed marks' outside')
    → Err Form ≡ commit_of n (rising 0 (fields_of 44 list))
last_bad n list rest low marks outside marks' outside' reads one m = sym (last_part n list rest low None marks outside marks' outside' reads one m)

pub last_good : (n : ℕ) (list rest : List ℕ) (low next : ℕ) (marks : List Bool) (outside : Bool) (marks' : List Bool) (outside' : Bool)
    → commit_of n (rising 0 (fields_of 44 list)) ≡ commit_left n marks outside (rising low (fields_of 44 rest)) → fields_of 44 rest ≡ rest ∷ [] → Marks n low rest (listed marks outside) (Some next) (listed marks' outside')
    → commit_of n (rising 0 (fields_of 44 list)) ≡ commit_left n marks' outside' (Some [])
last_good n list rest low next marks outside marks' outside' reads one m = last_part n list rest low (Some next) marks outside marks' outside' reads one m
