-- Laws of what a redo log stands for.
use Rattle.std.proofs.Common.{◌≡◌, ◌≤◌, ◌*◌, ◌∙◌, ℕ, List, Option, None, Some, IfSome, IsSome, Bool, true, false, [], ◌∷◌, length, replicate, refl, sym, ap, subst, arith, length-take-le, slice_get, ◌<◌}
use Rattle.std.proofs.lemmas.List.{ext_get_or, get_or-replicate, length-replicate}
use Rattle.std.proofs.lemmas.Option.{slice_get-get_or}
use Rattle.dc_media.specs.Disk.{Disk, IsCrashImage}
use Rattle.dc_media.specs.Told.{Device, IsSameStore}
use Rattle.dc_checkpoint.specs.States.{Form, Reading, State}
use Rattle.dc_kernel.specs.Layout.{kernel_words}
use Rattle.dc_redo.specs.Handles.{memory_of, shape_of}
use Rattle.dc_redo.specs.Shapes.{Shape, half_bytes}
use Rattle.dc_redo.specs.declared.frame.Frame.{Frame}
use Rattle.dc_redo.specs.Standing.{Half, Numbers, StandsFor, half_number, half_of, last_number, number, reading}
use Rattle.dc_redo.specs.Tallies.{Tally, next, start, tally}
use Rattle.dc_redo.specs.Entries.{entry_in}
use Rattle.dc_redo.specs.Whole.{IsReady, Known}

-- the content is an image
pub own_image : (disk : Disk) → IsCrashImage disk disk.content
own_image disk = record { length_same = refl; outside = λ i off. refl }

pub some_reading : (sh : Shape) (told : Option Disk) → IsSome told → (d : ℕ) → (r : Reading) × StandsFor sh told d r
some_reading sh None is d = absurd cc
some_reading sh (Some disk) is d = (reading sh d disk.content, (disk.content, own_image disk, refl))

pub some_number : (sh : Shape) (told : Option Disk) → IsSome told → (e : ℕ) × Numbers sh told e
some_number sh None is = absurd cc
some_number sh (Some disk) is = (number sh disk.content, (disk.content, own_image disk, refl))

pub memory_long : (size : ℕ) (body : List ℕ) (told : Option Disk) → size ≤ length body → IfSome (memory_of size body told) (λ words. length words ≡ size)
memory_long size body None fits = tt
memory_long size body (Some disk) fits = length-take-le size body fits

pub memory_told : (size : ℕ) (body : List ℕ) (told : Option Disk) → IsSome (memory_of size body told) → IsSome told
memory_told size body None is = is
memory_told size body (Some disk) is = refl

pub told_memory : (size : ℕ) (body : List ℕ) (told : Option Disk) → IsSome told → IsSome (memory_of size body told)
told_memory size body None is = is
told_memory size body (Some disk) is = refl

-- a device that is as it was
module _ {S C : Type 0} {device : Device S C} where
  pub same_self : (dev : S) (q : ℕ) → IsSameStore device dev dev q
  same_self dev q = record { told_same = refl; extent_same = refl; stops_same = refl; faults_same = refl; calls_same = refl }

  pub same_on : (old mid new : S) (q : ℕ) → IsSameStore device old mid q → IsSameStore device mid new q → IsSameStore device old new q
  same_on old mid new q a b = record {
    told_same = b.told_same ∙ a.told_same;
    extent_same = b.extent_same ∙ a.extent_same;
    stops_same = b.stops_same ∙ a.stops_same;
    faults_same = b.faults_same ∙ a.faults_same;
    calls_same = b.calls_same ∙ a.calls_same;
  }

  pub same_back : (old new : S) (q : ℕ) → IsSameStore device old new q → IsSameStore device new old q
  same_back old new q a = record { told_same = sym a.told_same; extent_same = sym a.extent_same; stops_same = sym a.stops_same; faults_same = sym a.faults_same; calls_same = sym a.calls_same }

-- what holds of its disk holds of it
pub still : (P : Option Disk → Type 0) (old new : Option Disk) → new ≡ old → P old → P new
still P old new same is = subst P (sym same) is

pub memory_still : (size : ℕ) (body : List ℕ) (old new : Option Disk) → new ≡ old → memory_of size body new ≡ memory_of size body old
memory_still size body old new same = ap (memory_of size body) same

-- the one image of a disk with nothing pending
pub same_image : (disk : Disk) (image : List ℕ) → disk.pending ≡ replicate (length disk.content) false → IsCrashImage disk image → image ≡ disk.content
same_image disk image clear is = ext_get_or 0 image disk.content is.length_same (λ i low.
    let within : i < length disk.content = omega (arith, low, is.length_same) in
    let off : slice_get (replicate (length disk.content) false) i ≡ Some false =
    slice_get-get_or (replicate (length disk.content) false) i true (omega (arith, length-replicate (length disk.content) false, within)) ∙ ap Some (get_or-replicate (length disk.content) i false true within) in
    is.outside i (ap (λ (l : List Bool). slice_get l i) clear ∙ off))

-- a ready handle's disk stands for the same under each number from its floor on
pub unwaited_reading : (sh : Shape) (k : Known) (told : Option Disk) → IsReady sh k told → (d e : ℕ) (r : Reading) → k.floor ≤ d → k.floor ≤ e → StandsFor sh told d r → StandsFor sh told e r
unwaited_reading sh k None ready d e r low high left = absurd left
unwaited_reading sh k (Some disk) ready d e r low high left =
    let same = same_image disk left.0 ready.0 left.1 in
    (left.0, left.1, left.2 ∙ ap (reading sh d) same ∙ ready.1.stands d low ∙ sym (ready.1.stands e high) ∙ sym (ap (reading sh e) same))

-- the memory lies in the lines
pub fits_in : (frame : Frame) (body : List ℕ) → length body ≡ 16 * frame.lines → frame.size ≤ length body
fits_in frame body long = let lined = frame.lined in omega (arith, lined, long)

pub large_still : (sh : Shape) (old new : ℕ) → new ≡ old → 2 * half_bytes sh ≤ old → 2 * half_bytes sh ≤ new
large_still sh old new same is = subst (λ n. 2 * half_bytes sh ≤ n) (sym same) is

-- two handles of one size, process and first state have one shape
pub same_shape : (a b : Frame) → a.size ≡ b.size → (shape_of a).form ≡ (shape_of b).form → (shape_of a).first ≡ (shape_of b).first → shape_of a ≡ shape_of b
same_shape a b size form first =
    let kernel : a.kernel_words ≡ b.kernel_words = a.layout ∙ ap (λ (f : Form). kernel_words f.n) form ∙ sym b.layout in
    let event : a.event_words ≡ b.event_words = a.events ∙ sym b.events in
    λ i. record { size = size i; kernel = kernel i; event = event i; form = form i; first = first i }

-- the decided number does not look at the first state
abbrev pub beginning : State → Shape → Shape
beginning first sh = record sh { first = first }

tally_beginning : (first : State) (sh : Shape) (d : ℕ) (t : Tally) (bodies : Half) → tally (beginning first sh) d t bodies ≡ tally sh d t bodies
unfolding next entry_in
tally_beginning first sh d t [] = refl
tally_beginning first sh d t (b ∷ bs) = tally_beginning first sh d (next sh d t b) bs

number_beginning : (first : State) (sh : Shape) (bytes : List ℕ) → number (beginning first sh) bytes ≡ number sh bytes
unfolding half_of
number_beginning first sh bytes =
    let most : (h : Half) → half_number (beginning first sh) h ≡ half_number sh h = λ h. ap (λ (t : Tally). t.most) (tally_beginning first sh last_number start h) in
    rw (most (half_of sh 0 bytes), most (half_of sh (half_bytes sh) bytes)) refl

module _ (a b : Frame) (told : ℕ → Option Disk) (index : a.index ≡ b.index) (size : a.size ≡ b.size) (form : (shape_of a).form ≡ (shape_of b).form) where
  pub leaves_alike : (shape_of a).first ≡ (shape_of b).first → (d : ℕ) (r : Reading) → StandsFor (shape_of a) (told a.index) d r → StandsFor (shape_of b) (told b.index) d r
  leaves_alike first d r left = subst (λ (x : Shape). StandsFor x (told b.index) d r) (same_shape a b size form first) (subst (λ q. StandsFor (shape_of a) (told q) d r) index left)

  alike : (t : Option Disk) (e : ℕ) → Numbers (shape_of a) t e → Numbers (shape_of b) t e
  alike None e is = absurd is
  alike (Some disk) e is =
      let kernel : a.kernel_words ≡ b.kernel_words = a.layout ∙ ap (λ (f : Form). kernel_words f.n) form ∙ sym b.layout in
      let event : a.event_words ≡ b.event_words = a.events ∙ sym b.events in
      let same : beginning (shape_of b).first (shape_of a) ≡ shape_of b = λ i. record { size = size i; kernel = kernel i; event = event i; form = form i; first = (shape_of b).first } in
      (is.0, is.1, is.2 ∙ sym (number_beginning (shape_of b).first (shape_of a) is.0) ∙ ap (λ x. number x is.0) same)

  pub numbers_alike : (e : ℕ) → Numbers (shape_of a) (told a.index) e → Numbers (shape_of b) (told b.index) e
  numbers_alike e is = alike (told b.index) e (subst (λ q. Numbers (shape_of a) (told q) e) index is)
