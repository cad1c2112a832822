-- What is left of a disk after several calls.
use Rattle.std.proofs.Common.{◌≡◌, ◌+◌, ◌≤◌, ℕ, List, [], ◌++◌, Bool, true, Option, None, Some, IfSome, Result, Ok, Err, length, take, drop, replicate, slice_get, refl, ap, sym, ◌∙◌, arith}
use Rattle.std.proofs.Math.Seq.{take-add}
use Rattle.std.proofs.lemmas.List.{drop-drop, length-take-le, length-drop, length-replicate, replicate-append-replicate}
use Rattle.std.specs.Result.{result_and}
use Rattle.dc_media.specs.declared.faults.DeviceFault.{DeviceFault}
use Rattle.dc_media.specs.Disk.{Disk, Survives, HasExtent, Reads, Writes, spliced, with_pending}
use Rattle.dc_media.specs.Told.{Becomes}
use Rattle.dc_armed.specs.Torn.{Overwrites, overwritten}
use Rattle.dc_media.proofs.Splicing.{spliced_nothing, spliced-twice, length-spliced, drop-spliced, Survives-spliced, unmarked}

-- the marks of so many pending bytes
abbrev marks : ℕ → List Bool
marks n = replicate n true

-- one more call after one that left a crash image
pub Survives-then : (at n : ℕ) (first second third : Disk) → at + n ≤ length first.pending
    → Survives first second → Survives (with_pending at n second) third → Survives (with_pending at n first) third
Survives-then at n first second third fits one two = record {
  pending = two.pending ∙ ap (λ pending. spliced pending at (marks n)) one.pending;
  crash_image = record {
    length_same = two.crash_image.length_same ∙ one.crash_image.length_same;
    outside = λ i off.
        two.crash_image.outside i (ap (λ pending. slice_get (spliced pending at (marks n)) i) one.pending ∙ off)
        ∙ one.crash_image.outside i ((unmarked first.pending at n i fits off).1);
  };
}

-- bytes right behind pending bytes
pub with_pending-twice : (at n m : ℕ) (disk : Disk) → at + (n + m) ≤ length disk.pending → with_pending (at + n) m (with_pending at n disk) ≡ with_pending at (n + m) disk
with_pending-twice at n m disk fits =
    let long = length-replicate m true in
    ap (λ pending. record disk { pending = pending })
    (spliced-twice disk.pending at n (marks n) (marks m) (length-replicate n true) (omega arith) ∙ ap (spliced disk.pending at) (replicate-append-replicate n m true))

-- how many old bytes there are
pub length-old : (content : List ℕ) (at n : ℕ) → at + n ≤ length content → length (take n (drop at content)) ≡ n
length-old content at n fits = length-take-le n (drop at content) (omega (arith, length-drop at content))

both : (c c' : List ℕ) (p p' : List Bool) → c ≡ c' → p ≡ p' → ◌≡◌ {A = Disk} (record { content = c; pending = p }) (record { content = c'; pending = p' })
both c c' p p' same same' = rw (same, same') refl

-- two overwritten parts are one, where they are made as one
pub overwritten-twice : (at n m : ℕ) (f g h : List ℕ → List ℕ) (disk : Disk) → at + (n + m) ≤ length disk.content → at + (n + m) ≤ length disk.pending
    → ((old : List ℕ) → length old ≡ n → length (f old) ≡ n) → ((old : List ℕ) → length old ≡ m → length (g old) ≡ m)
    → ((a b : List ℕ) → length a ≡ n → length b ≡ m → h (a ++ b) ≡ f a ++ g b)
    → overwritten (at + n) m g (overwritten at n f disk) ≡ overwritten at (n + m) h disk
overwritten-twice at n m f g h disk fits fits' f_long g_long joins =
    let c = disk.content in
    let a = take n (drop at c) in
    let b = take m (drop (at + n) c) in
    let a_long : length a ≡ n = length-old c at n (omega arith) in
    let b_long : length b ≡ m = length-old c (at + n) m (omega arith) in
    let behind : drop (at + n) (spliced c at (f a)) ≡ drop (at + n) c = drop-spliced c at n (f a) (f_long a a_long) (omega arith) in
    let old : take (n + m) (drop at c) ≡ a ++ b = take-add n m (drop at c) ∙ ap (λ ys. a ++ take m ys) (drop-drop n at c) in
    let content : spliced (spliced c at (f a)) (at + n) (g (take m (drop (at + n) (spliced c at (f a))))) ≡ spliced c at (h (take (n + m) (drop at c))) =
    rw (behind, old) (spliced-twice c at n (f a) (g b) (f_long a a_long) (omega (arith, g_long b b_long)) ∙ ap (spliced c at) (sym (joins a b a_long b_long))) in
    let pending = ap (λ d. d.pending) (with_pending-twice at n m disk fits') in
    both _ _ _ _ content pending

-- a call that overwrites leaves a crash image in any case
pub Overwrites-survives : {T : Type 0} (e at n : ℕ) (make : List ℕ → List ℕ) (r : Result T DeviceFault) (a b : Option Disk)
    → at + n ≤ e → IfSome a (HasExtent e) → ((old : List ℕ) → length old ≡ n → length (make old) ≡ n)
    → Overwrites at n make r a b → Becomes a b (λ before. Survives (with_pending at n before))
Overwrites-survives e at n make (Err fault) a b fits whole long made = made
Overwrites-survives e at n make (Ok x) a None fits whole long made = tt
Overwrites-survives e at n make (Ok x) None (Some z) fits whole long made = absurd made
Overwrites-survives e at n make (Ok x) (Some y) (Some z) fits whole long made =
    rw made (Survives-spliced y at n (make (take n (drop at y.content))) (long _ (length-old y.content at n (omega (arith, whole.content)))) (omega (arith, whole.content)) (omega (arith, whole.pending)))

-- two crash images in a row
survives-twice : (e at n m : ℕ) (a b c : Option Disk) → at + (n + m) ≤ e → IfSome a (HasExtent e)
    → Becomes a b (λ before. Survives (with_pending at n before)) → Becomes b c (λ before. Survives (with_pending (at + n) m before))
    → Becomes a c (λ before. Survives (with_pending at (n + m) before))
survives-twice e at n m a b None fits whole one two = tt
survives-twice e at n m a None (Some z) fits whole one two = absurd two
survives-twice e at n m None (Some y) (Some z) fits whole one two = absurd one
survives-twice e at n m (Some x) (Some y) (Some z) fits whole one two =
    let same = length-spliced x.pending at (marks n) (omega (arith, whole.pending, length-replicate n true)) in
    rw (← with_pending-twice at n m x (omega (arith, whole.pending))) (Survives-then (at + n) m (with_pending at n x) y z (omega (arith, whole.pending, same)) one two)

exact-twice : (e at n m : ℕ) (f g h : List ℕ → List ℕ) (a b c : Option Disk) → at + (n + m) ≤ e → IfSome a (HasExtent e)
    → ((old : List ℕ) → length old ≡ n → length (f old) ≡ n) → ((old : List ℕ) → length old ≡ m → length (g old) ≡ m)
    → ((x y : List ℕ) → length x ≡ n → length y ≡ m → h (x ++ y) ≡ f x ++ g y)
    → Becomes a b (λ before after. after ≡ overwritten at n f before) → Becomes b c (λ before after. after ≡ overwritten (at + n) m g before)
    → Becomes a c (λ before after. after ≡ overwritten at (n + m) h before)
exact-twice e at n m f g h a b None fits whole f_long g_long joins one two = tt
exact-twice e at n m f g h a None (Some z) fits whole f_long g_long joins one two = absurd two
exact-twice e at n m f g h None (Some y) (Some z) fits whole f_long g_long joins one two = absurd one
exact-twice e at n m f g h (Some x) (Some y) (Some z) fits whole f_long g_long joins one two =
    rw (two, one) (overwritten-twice at n m f g h x (omega (arith, whole.content)) (omega (arith, whole.pending)) f_long g_long joins)

-- two parts in a row are one, whichever of them is refused
pub Overwrites-then : {T : Type 0} (e at n m : ℕ) (f g h : List ℕ → List ℕ) (r s : Result T DeviceFault) (a b c : Option Disk)
    → at + (n + m) ≤ e → IfSome a (HasExtent e) → IfSome b (HasExtent e)
    → ((old : List ℕ) → length old ≡ n → length (f old) ≡ n) → ((old : List ℕ) → length old ≡ m → length (g old) ≡ m)
    → ((x y : List ℕ) → length x ≡ n → length y ≡ m → h (x ++ y) ≡ f x ++ g y)
    → Overwrites at n f r a b → Overwrites (at + n) m g s b c → Overwrites at (n + m) h (result_and r s) a c
Overwrites-then e at n m f g h (Ok x) (Ok y) a b c fits whole whole' f_long g_long joins one two =
    exact-twice e at n m f g h a b c fits whole f_long g_long joins one two
Overwrites-then e at n m f g h (Ok x) (Err y) a b c fits whole whole' f_long g_long joins one two =
    survives-twice e at n m a b c fits whole (Overwrites-survives e at n f (Ok x) a b (omega arith) whole f_long one) two
Overwrites-then e at n m f g h (Err x) (Ok y) a b c fits whole whole' f_long g_long joins one two =
    survives-twice e at n m a b c fits whole one (Overwrites-survives e (at + n) m g (Ok y) b c (omega arith) whole' g_long two)
Overwrites-then e at n m f g h (Err x) (Err y) a b c fits whole whole' f_long g_long joins one two =
    survives-twice e at n m a b c fits whole one two

-- nothing is overwritten
same_disk : (at : ℕ) (make : List ℕ → List ℕ) (disk : Disk) → make [] ≡ [] → overwritten at 0 make disk ≡ disk
same_disk at make disk none =
    both (spliced disk.content at (make [])) disk.content (spliced disk.pending at []) disk.pending
    (ap (spliced disk.content at) none ∙ spliced_nothing disk.content at) (spliced_nothing disk.pending at)

pub Overwrites-nothing : {T : Type 0} (at : ℕ) (make : List ℕ → List ℕ) (x : T) (a : Option Disk) → make [] ≡ [] → Overwrites {E = DeviceFault} at 0 make (Ok x) a a
Overwrites-nothing at make x None none = tt
Overwrites-nothing at make x (Some disk) none = sym (same_disk at make disk none)

-- what is made otherwise, with the same outcome
pub Overwrites-same : {T : Type 0} (e at n : ℕ) (f g : List ℕ → List ℕ) (r : Result T DeviceFault) (a b : Option Disk)
    → at + n ≤ e → IfSome a (HasExtent e) → ((old : List ℕ) → length old ≡ n → f old ≡ g old) → Overwrites at n f r a b → Overwrites at n g r a b
Overwrites-same e at n f g (Err fault) a b fits whole same made = made
Overwrites-same e at n f g (Ok x) a None fits whole same made = tt
Overwrites-same e at n f g (Ok x) None (Some z) fits whole same made = absurd made
Overwrites-same e at n f g (Ok x) (Some y) (Some z) fits whole same made =
    made ∙ ap (λ piece. record (with_pending at n y) { content = spliced y.content at piece }) (same _ (length-old y.content at n (omega (arith, whole.content))))

-- bytes that were read are written back: all of it is done
back_ok : (at n : ℕ) (bytes : List ℕ) (x y z : Disk) → length bytes ≡ n → y ≡ x → bytes ≡ take (length bytes) (drop at x.content)
    → z ≡ record (with_pending at (length bytes) y) { content = spliced y.content at bytes } → z ≡ overwritten at n (λ old. old) x
back_ok at n bytes x y z long same read written = rw (written, same)
    (both _ _ _ _ (ap (spliced x.content at) (read ∙ ap (λ k. take k (drop at x.content)) long)) (ap (λ k. spliced x.pending at (marks k)) long))

-- a refused read, and then any write
survives-after : (e at n : ℕ) (a b c : Option Disk) → at + n ≤ e → IfSome a (HasExtent e)
    → Becomes a b Survives → Becomes b c (λ before. Survives (with_pending at n before)) → Becomes a c (λ before. Survives (with_pending at n before))
survives-after e at n a b None fits whole one two = tt
survives-after e at n a None (Some z) fits whole one two = absurd two
survives-after e at n None (Some y) (Some z) fits whole one two = absurd one
survives-after e at n (Some x) (Some y) (Some z) fits whole one two = Survives-then at n x y z (omega (arith, whole.pending)) one two

pub Overwrites-back : {T : Type 0} (e at n : ℕ) (bytes : List ℕ) (r s : Result T DeviceFault) (a b c : Option Disk)
    → length bytes ≡ n → at + n ≤ e → IfSome a (HasExtent e) → IfSome b (HasExtent e)
    → Reads at bytes r a b → Writes at bytes s b c → Overwrites at n (λ old. old) (result_and r s) a c
Overwrites-back e at n bytes (Ok u) (Ok v) a b None long fits whole whole' read written = tt
Overwrites-back e at n bytes (Ok u) (Ok v) a None (Some z) long fits whole whole' read written = absurd written
Overwrites-back e at n bytes (Ok u) (Ok v) None (Some y) (Some z) long fits whole whole' read written = absurd read
Overwrites-back e at n bytes (Ok u) (Ok v) (Some x) (Some y) (Some z) long fits whole whole' read written =
    back_ok at n bytes x y z long read.0 read.1 written
Overwrites-back e at n bytes (Ok u) (Err v) a b None long fits whole whole' read written = tt
Overwrites-back e at n bytes (Ok u) (Err v) a None (Some z) long fits whole whole' read written = absurd written
Overwrites-back e at n bytes (Ok u) (Err v) None (Some y) (Some z) long fits whole whole' read written = absurd read
Overwrites-back e at n bytes (Ok u) (Err v) (Some x) (Some y) (Some z) long fits whole whole' read written =
    rw (← long, ← read.0) written
Overwrites-back e at n bytes (Err u) s a b c long fits whole whole' read written =
    let left : Becomes b c (λ before. Survives (with_pending at (length bytes) before)) =
    Overwrites-survives e at (length bytes) (λ old. bytes) s b c (omega arith) whole' (λ old same. refl) written in
    survives-after e at n a b c fits whole read (rw long at left)
