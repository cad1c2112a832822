-- Parts of a write in a row.
use Rattle.std.proofs.Common.{◌≡◌, ◌+◌, ◌-◌, ◌%◌, ◌<◌, ◌≤◌, ℕ, List, [], ◌++◌, Option, None, Some, IfSome, Result, Ok, Err, OnOk, OnErr, length, take, drop, min, replicate, refl, ap, sym, ⊎_elim, ◌∙◌, arith}
use Rattle.std.proofs.lemmas.Bool.{cases_lt}
use Rattle.std.proofs.lemmas.List.{drop_all, drop_at, nil_from_length, length-take-le, take-replicate, length-append, length-drop, length-take, length-replicate, replicate-append-replicate, take_all}
use Rattle.std.specs.Result.{result_and}
use Rattle.dc_media.specs.declared.faults.DeviceFault.{DeviceFault}
use Rattle.dc_media.specs.declared.faults.DeviceFault.TheVariants.{Stopped}
use Rattle.dc_media.specs.Disk.{Disk, HasExtent, Writes}
use Rattle.dc_media.specs.declared.tear.Tear.{Tear}
use Rattle.dc_media.specs.Tears.{left, torn}
use Rattle.dc_media.specs.Told.{Device}
use Rattle.dc_armed.specs.Laws.{GoesOn}
use Rattle.dc_armed.specs.Stops.{StopsSoFar, Comes}
use Rattle.dc_armed.specs.Torn.{IsOverwrite, Overwrites, at_once, in_parts, torn_calls}
use Rattle.dc_armed.proofs.Counting.{IsInCalls-none, IsInCalls-then}
use Rattle.dc_armed.proofs.Surviving.{Overwrites-nothing, Overwrites-same, Overwrites-survives, Overwrites-then}

module _ {S : Type 0} (device : Device S Disk) where
  -- each disk that is told has its extent
  abbrev pub AllWhole : Type 0
  AllWhole = (s : S) (q : ℕ) → IfSome (device.told s q) (HasExtent (device.extent s q))

  -- two parts in a row
  pub IsOverwrite-then : {T : Type 0} (p at n m j k : ℕ) (f g h : List ℕ → List ℕ) (r s : Result T DeviceFault) (a b c : S)
      → AllWhole → GoesOn device → at + (n + m) ≤ device.extent a p
      → ((old : List ℕ) → length old ≡ n → length (f old) ≡ n) → ((old : List ℕ) → length old ≡ m → length (g old) ≡ m)
      → ((x y : List ℕ) → length x ≡ n → length y ≡ m → h (x ++ y) ≡ f x ++ g y)
      → IsOverwrite device p (record { at = at; count = n; make = f; calls = j }) r a b
      → IsOverwrite device p (record { at = at + n; count = m; make = g; calls = k }) s b c
      → IsOverwrite device p (record { at = at; count = n + m; make = h; calls = j + k }) (result_and r s) a c
  IsOverwrite-then p at n m j k f g h r s a b c whole on fits f_long g_long joins one two = record {
    bytes = Overwrites-then (device.extent a p) at n m f g h r s (device.told a p) (device.told b p) (device.told c p) fits (whole a p)
        (rw one.lawful.call.extent at (whole b p)) f_long g_long joins one.bytes two.bytes;
    lawful = IsInCalls-then device on p j k r s a b c one.lawful two.lawful;
  }

  -- no part
  pub IsOverwrite-nothing : {T : Type 0} → ((s : S) → device.continues s s) → (p at : ℕ) (make : List ℕ → List ℕ) (x : T) (a : S) → make [] ≡ []
      → IsOverwrite device p (record { at = at; count = 0; make = make; calls = 0 }) (Ok x) a a
  IsOverwrite-nothing self p at make x a none = record {
    bytes = Overwrites-nothing at make x (device.told a p) none;
    lawful = IsInCalls-none device self p x a;
  }

  -- what is made otherwise
  pub IsOverwrite-same : {T : Type 0} (p at n k : ℕ) (f g : List ℕ → List ℕ) (r : Result T DeviceFault) (a b : S)
      → AllWhole → at + n ≤ device.extent a p → ((old : List ℕ) → length old ≡ n → f old ≡ g old)
      → IsOverwrite device p (record { at = at; count = n; make = f; calls = k }) r a b → IsOverwrite device p (record { at = at; count = n; make = g; calls = k }) r a b
  IsOverwrite-same p at n k f g r a b whole fits same made = record {
    bytes = Overwrites-same (device.extent a p) at n f g r (device.told a p) (device.told b p) fits (whole a p) same made.bytes;
    lawful = made.lawful;
  }

-- what is left of some bytes is as long, and is left of each part
pub length-left : (fill : Option ℕ) (old : List ℕ) → length (left fill old) ≡ length old
length-left None old = refl
length-left (Some byte) old = length-replicate (length old) byte

pub left-append : (fill : Option ℕ) (xs ys : List ℕ) → left fill (xs ++ ys) ≡ left fill xs ++ left fill ys
left-append None xs ys = refl
left-append (Some byte) xs ys = ap (λ n. replicate n byte) (length-append xs ys) ∙ sym (replicate-append-replicate (length xs) (length ys) byte)

pub left_nothing : (fill : Option ℕ) → left fill [] ≡ []
left_nothing None = refl
left_nothing (Some byte) = refl

pub left_filled : (byte : ℕ) (n : ℕ) (old : List ℕ) → length old ≡ n → replicate n byte ≡ left (Some byte) old
left_filled byte n old e = ap (λ k. replicate k byte) (sym e)

-- a torn write in two parts
pub torn-parts : (tear : Tear) (piece : List ℕ) (n : ℕ) → n ≡ min (length piece) tear.keep
    → (xs ys : List ℕ) → length xs ≡ n → length ys ≡ length piece - n → torn tear (xs ++ ys) piece ≡ take n piece ++ left tear.fill ys
torn-parts tear piece n is xs ys long long' = ⊎_elim
    (λ (inside : tear.keep < length piece).
    let same : tear.keep ≡ n = omega arith in
    ap (λ zs. take tear.keep piece ++ left tear.fill zs) (drop_at xs ys tear.keep (omega arith)) ∙ ap (λ k. take k piece ++ left tear.fill ys) same)
    (λ (past : length piece ≤ tear.keep).
    let none : ys ≡ [] = nil_from_length ys (omega arith) in
    ap (λ zs. take tear.keep piece ++ left tear.fill zs) (drop_all tear.keep (xs ++ ys) (omega (arith, length-append xs ys)) ∙ sym none)
    ∙ ap (λ zs. zs ++ left tear.fill ys) (take_all tear.keep piece past ∙ sym (take_all n piece (omega arith))))
    (cases_lt tear.keep (length piece))

module _ {S : Type 0} (device : Device S Disk) where
  -- as many bytes and calls
  pub as_long : {T : Type 0} (p at n n' k k' : ℕ) (make : List ℕ → List ℕ) (r : Result T DeviceFault) (a b : S)
      → n ≡ n' → k ≡ k' → IsOverwrite device p (record { at = at; count = n; make = make; calls = k }) r a b
      → IsOverwrite device p (record { at = at; count = n'; make = make; calls = k' }) r a b
  as_long p at n n' k k' make r a b e e' made = rw e at (rw e' at made)

  -- some of many equal bytes are written
  pub IsOverwrite-filled : {T : Type 0} (p at n byte : ℕ) (fill : Option ℕ) (bytes : List ℕ) (r : Result T DeviceFault) (a b : S)
      → AllWhole device → at + n ≤ device.extent a p → n ≤ 64 → fill ≡ Some byte → bytes ≡ replicate 64 byte
      → IsOverwrite device p (record { at = at; count = length (take n bytes); make = (λ old. take n bytes); calls = at_once (length (take n bytes)) }) r a b
      → IsOverwrite device p (record { at = at; count = n; make = left fill; calls = at_once n }) r a b
  IsOverwrite-filled p at n byte fill bytes r a b whole fits few is same made =
      let part : take n bytes ≡ replicate n byte = ap (take n) same ∙ take-replicate n 64 byte few in
      let long : length (take n bytes) ≡ n = ap length part ∙ length-replicate n byte in
      rw is (IsOverwrite-same device p at n (at_once n) (λ old. take n bytes) (left (Some byte)) r a b whole fits
      (λ old e. part ∙ left_filled byte n old e)
      (as_long p at (length (take n bytes)) n (at_once (length (take n bytes))) (at_once n) (λ old. take n bytes) r a b long (ap at_once long) made))

  -- the first bytes are written, and the others are left
  pub IsOverwrite-torn : {T : Type 0} (p at k : ℕ) (tear : Tear) (piece : List ℕ) (r s : Result T DeviceFault) (a b c : S)
      → AllWhole device → GoesOn device → at + length piece ≤ device.extent a p → k ≡ min (length piece) tear.keep
      → IsOverwrite device p (record { at = at; count = length (take k piece); make = (λ old. take k piece); calls = at_once (length (take k piece)) }) r a b
      → IsOverwrite device p (record { at = at + k; count = length piece - k; make = left tear.fill; calls = in_parts (length piece - k) }) s b c
      → IsOverwrite device p (record { at = at; count = length piece; make = (λ old. torn tear old piece); calls = torn_calls tear (length piece) }) (result_and r s) a c
  IsOverwrite-torn p at k tear piece r s a b c whole on fits is front rest =
      let within : k ≤ length piece = omega arith in
      let long : length (take k piece) ≡ k = length-take-le k piece within in
      as_long p at (k + (length piece - k)) (length piece) (at_once k + in_parts (length piece - k)) (torn_calls tear (length piece))
      (λ old. torn tear old piece) (result_and r s) a c (omega arith) (ap (λ kept. at_once kept + in_parts (length piece - kept)) is)
      (IsOverwrite-then device p at k (length piece - k) (at_once k) (in_parts (length piece - k)) (λ old. take k piece) (left tear.fill) (λ old. torn tear old piece) r s a b c
      whole on (omega arith) (λ old e. long) (λ old e. length-left tear.fill old ∙ e) (torn-parts tear piece k is)
      (as_long p at (length (take k piece)) k (at_once (length (take k piece))) (at_once k) (λ old. take k piece) r a b long (ap at_once long) front) rest)

-- one more part of so many bytes that are left, of which those so far were whole
pub in_parts-more : (done part : ℕ) → done % 64 ≡ 0 → 0 < part → part ≤ 64 → in_parts done + at_once part ≡ in_parts (done + part)
in_parts-more done part whole some few = omega arith

-- how long a torn write is
pub length-torn : (tear : Tear) (old piece : List ℕ) → length old ≡ length piece → length (torn tear old piece) ≡ length piece
length-torn tear old piece e =
    let whole = length-append (take tear.keep piece) (left tear.fill (drop tear.keep old)) in
    let front = length-take tear.keep piece in
    let rest = length-left tear.fill (drop tear.keep old) in
    let behind = length-drop tear.keep old in
    omega arith

-- a torn write is a refused one, whether a stop came or the disk refused a part
pub Writes-comes : {T : Type 0} (e at : ℕ) (p : ℕ) (tear : Tear) (piece : List ℕ) (old new : StopsSoFar) (done result : Result T DeviceFault) (a b : Option Disk)
    → at + length piece ≤ e → IfSome a (HasExtent e)
    → Overwrites at (length piece) (λ bytes. torn tear bytes piece) done a b
    → OnOk done ((result ≡ Err Stopped) × Comes p old new) → OnErr done ((result ≡ done) × (new.came ≡ old.came))
    → Writes at piece result a b
Writes-comes e at p tear piece old new (Ok x) result a b fits whole made comes refused =
    rw comes.0 (Overwrites-survives e at (length piece) (λ bytes. torn tear bytes piece) (Ok x) a b fits whole (λ bytes e. length-torn tear bytes piece e) made)
Writes-comes e at p tear piece old new (Err x) result a b fits whole made comes refused = rw refused.0 made
