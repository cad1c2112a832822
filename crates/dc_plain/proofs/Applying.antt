-- What an act makes of a world, by the answer that it gives.
use Rattle.std.proofs.Common.{◌≡◌, ◌∙◌, ◌<◌, ℕ, Bool, false, true, List, [], Option, None, Some, Vec, ap, drop, if◌then◌else◌, length, map, refl, slice_get, slice_index_or, subst, sym}
use Rattle.std.specs.Option.{option_map}
use Rattle.std.specs.Vec.{with_items}
use Rattle.std.specs.declared.alloc.Global.{Global}
use Rattle.std.proofs.lemmas.List.{length-map, take_at}
use Rattle.std.proofs.lemmas.Option.{slice_get-map, slice_get_read}
use Rattle.dc_elf.specs.Images.{Image}
use Rattle.dc_elf.specs.declared.image.Image as loaded
use Rattle.dc_guest.specs.Guest.{Guest, guests_of}
use Rattle.dc_model.specs.FailureFree.{FailureFree, apply, apply_answer, happened, opened, answer_for}
use Rattle.dc_elf.specs.Loaded.{seen_image}
use Rattle.dc_words.specs.Lists.{lists_of}
use Rattle.dc_plain.specs.Playing.{AreAmong, Happens, answer_to, if_fits, local_at, local_in, local_of, Played, played, procs_of, standing_of, world_at, world_in}
use Rattle.dc_model.specs.Guests.{Answer, Guests}
use Rattle.dc_model.specs.Process.{Local, begun, fits}
use Rattle.dc_plain.proofs.Fitting.{items_are}
use Rattle.dc_model.specs.declared.act.Act.{Act}
use Rattle.dc_plain.specs.declared.applied.Applied.{Applied}
use Rattle.dc_plain.specs.declared.process.Process.{Process}
use Rattle.dc_model.specs.declared.visible.Visible.{Visible}

module _ {Mc : Type 0} (G : Guests Mc) (w : FailureFree Mc) (p : ℕ) where
  by_fit : (b : Bool) (a : Answer) → (if b then Some (happened G w p a) else None) ≡ option_map (happened G w p) (if b then Some a else None)
  by_fit true a = refl
  by_fit false a = refl

  by_answer_for : (o : Option Answer) → apply_answer G w p o ≡ option_map (happened G w p) (if_fits G w p o)
  by_answer_for None = refl
  by_answer_for (Some a) = by_fit (fits G p (w.procs p) a) a

  pub applied_by : (b : Act) → apply G w p b ≡ option_map (happened G w p) (answer_to G w p b)
  applied_by b = by_answer_for (answer_for G w p b)

-- the value of the code's guests is their world
local_is : (n p : ℕ) (o : Option Process) → local_in n p (option_map standing_of o) ≡ local_at n p o
local_is n p None = refl
local_is n p (Some l) = λ i. record { machine = l.guest; inputs_taken = l.inputs_taken; received = λ s. (local_at n p (Some l)).received s; sent = λ q. items_are l.sent.items q i; visible = l.visible }

pub world_is : (processes : List Process) (inputs : List (Vec (List ℕ) Global)) (visibles : List Visible) → world_in (played processes inputs visibles) ≡ world_at processes visibles
world_is processes inputs visibles = λ i. record { procs = λ p. proc p i; visibles = visibles }
  where
    proc : (p : ℕ) → local_in (length (map standing_of processes)) p (slice_get (map standing_of processes) p) ≡ local_at (length processes) p (slice_get processes p)
    proc p = ap (λ n. local_in n p (slice_get (map standing_of processes) p)) (length-map processes standing_of)
        ∙ ap (local_in (length processes) p) (slice_get-map standing_of processes p) ∙ local_is (length processes) p (slice_get processes p)

module _ {Mc : Type 0} (G : Guests Mc) (w : FailureFree Mc) (p : ℕ) (b : Act) where
  pub refused : None ≡ answer_to G w p b → apply G w p b ≡ None
  refused none = applied_by G w p b ∙ ap (option_map (happened G w p)) (sym none)

  pub applies : (a : Answer) → Some a ≡ answer_to G w p b → apply G w p b ≡ Some (happened G w p a)
  applies a some = applied_by G w p b ∙ ap (option_map (happened G w p)) (sym some)

-- a vector whose items were lent and written back
pub written_back : {A : Type 0} (v : Vec A Global) (lent new : List A) → lent ≡ v.items → length new ≡ length lent → (with_items v new).items ≡ new
written_back v lent new lent_is long = take_at new (drop (length new) v.items) v.len (long ∙ ap length lent_is ∙ sym v.ok.0)

-- the value of the code's guests before and after a call on the lent processes
module _ (w : Played) (processes : Vec Process Global) (inputs : Vec (Vec (List ℕ) Global) Global) (visibles visibles' : List Visible) (lent new : List Process) (lists : List (Vec (List ℕ) Global))
    (view_is : played processes.items inputs.items visibles ≡ w) (lent_is : lent ≡ processes.items) (lists_is : lists ≡ inputs.items) (long : length new ≡ length lent) where
  pub before : world_in w ≡ world_at lent visibles
  before = sym (ap world_in view_is) ∙ world_is processes.items inputs.items visibles ∙ ap (λ xs. world_at xs visibles) (sym lent_is)

  pub records : w.inputs ≡ lists_of lists
  records = sym (ap (λ (x : Played). x.inputs) view_is) ∙ ap lists_of (sym lists_is)

  pub later : world_in (played (with_items processes new).items inputs.items visibles') ≡ world_at new visibles'
  later = world_is (with_items processes new).items inputs.items visibles' ∙ ap (λ xs. world_at xs visibles') (written_back processes lent new lent_is long)

  pub applied_before : (images : List Image) (p : ℕ) (b : Act) → apply (guests_of images w.inputs) (world_in w) p b ≡ apply (guests_of images (lists_of lists)) (world_at lent visibles) p b
  applied_before images p b = ap (λ xs. apply (guests_of images xs) (world_in w) p b) records ∙ ap (λ x. apply (guests_of images (lists_of lists)) x p b) before

  -- what an act was, on the lent processes
  pub happens_here : (images : List Image) (p : ℕ) (b : Act) (applied : Applied) → Happens (guests_of images (lists_of lists)) (world_at lent visibles) p b applied (world_at new visibles')
      → Happens (guests_of images w.inputs) (world_in w) p b applied (world_in (played (with_items processes new).items inputs.items visibles'))
  happens_here images p b applied is = subst (λ xs. Happens (guests_of images xs) (world_in w) p b applied (world_in (played (with_items processes new).items inputs.items visibles'))) (sym records)
      (subst (λ old. Happens (guests_of images (lists_of lists)) old p b applied (world_in (played (with_items processes new).items inputs.items visibles'))) (sym before)
      (subst (λ after. Happens (guests_of images (lists_of lists)) (world_at lent visibles) p b applied after) (sym later) is))

-- the opened world
pub opens : (images : List loaded.Image) (lists : List (List (List ℕ))) (processes : List Process) (inputs : List (Vec (List ℕ) Global)) (visibles : List Visible)
    → ((p : ℕ) → procs_of processes p ≡ begun (guests_of (map seen_image images) lists) p) → visibles ≡ []
    → world_in (played processes inputs visibles) ≡ opened (guests_of (map seen_image images) lists)
opens images lists processes inputs visibles begins none = world_is processes inputs visibles ∙ (λ i. record { procs = λ p. begins p i; visibles = none i })

-- a process that is read
pub local_there : (w : Played) (processes : List Process) (inputs : List (Vec (List ℕ) Global)) (visibles : List Visible) (p : ℕ) (l : Process) → played processes inputs visibles ≡ w
    → p < length w.processes → l ≡ slice_index_or processes p l → local_of l ≡ (world_in w).procs p
local_there w processes inputs visibles p l view_is within at = sym (ap (local_at (length processes) p) there)
    ∙ ap (λ (x : FailureFree Guest). x.procs p) (sym (world_is processes inputs visibles) ∙ ap world_in view_is)
  where
    inside : p < length processes
    inside = subst (λ n. p < n) (ap (λ (x : Played). length x.processes) (sym view_is) ∙ length-map processes standing_of) within

    there : slice_get processes p ≡ Some l
    there = slice_get_read processes (length processes) p l refl inside at

pub count_there : (w : Played) (processes : List Process) (inputs : List (Vec (List ℕ) Global)) (visibles : List Visible) (p : ℕ) (l : Process) → played processes inputs visibles ≡ w
    → p < length w.processes → l ≡ slice_index_or processes p l → AreAmong (length processes) processes → l.guest.count ≡ length w.processes
count_there w processes inputs visibles p l view_is within at each = ap (λ (x : Process). x.guest.count) at ∙ each p l inside ∙ sym long
  where
    long : length w.processes ≡ length processes
    long = ap (λ (x : Played). length x.processes) (sym view_is) ∙ length-map processes standing_of

    inside : p < length processes
    inside = subst (λ n. p < n) long within

-- how many records a process has shown
pub visible_is : (w : Played) (processes : List Process) (inputs : List (Vec (List ℕ) Global)) (visibles : List Visible) (p : ℕ) (l : Process) → played processes inputs visibles ≡ w
    → p < length w.processes → l ≡ slice_index_or processes p l → l.visible ≡ ((world_in w).procs p).visible
visible_is w processes inputs visibles p l view_is within at = ap (λ (x : Local Guest). x.visible) (sym (ap (local_at (length processes) p) there))
    ∙ ap (λ (x : FailureFree Guest). (x.procs p).visible) (sym (world_is processes inputs visibles) ∙ ap world_in view_is)
  where
    inside : p < length processes
    inside = subst (λ n. p < n) (ap (λ (x : Played). length x.processes) (sym view_is) ∙ length-map processes standing_of) within

    there : slice_get processes p ≡ Some l
    there = slice_get_read processes (length processes) p l refl inside at
