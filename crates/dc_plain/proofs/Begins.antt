-- Each process of a list before its first act.
use Rattle.std.proofs.Common.{◌≡◌, ◌∙◌, ◌+◌, ◌<◌, ℕ, List, [], ◌∷◌, ◌++◌, Option, None, Some, ◌≢◌, ◌≤◌, ap, arith, length, map, refl, slice_get, sym, subst, ⊎_elim}
use Rattle.std.specs.Option.{option_map}
use Rattle.std.proofs.lemmas.Bool.{cases_eq, cases_lt}
use Rattle.std.proofs.lemmas.List.{length-append, length-map}
use Rattle.std.proofs.lemmas.Option.{slice_get-map, slice_get_past}
use Rattle.dc_elf.specs.declared.image.Image as loaded
use Rattle.dc_guest.specs.Guest.{guests_of}
use Rattle.dc_elf.specs.Loaded.{seen_image}
use Rattle.dc_plain.specs.Playing.{begun_at, local_at, local_of, procs_of, started_at}
use Rattle.dc_model.specs.Process.{begun}
use Rattle.dc_plain.proofs.Lists.{get_end, get_front}
use Rattle.dc_plain.specs.declared.process.Process.{Process}

-- each process so far is that of its image
abbrev pub BegunUpTo : List loaded.Image → List Process → Type 0
BegunUpTo images processes = (p : ℕ) → p < length processes → option_map local_of (slice_get processes p) ≡ option_map (λ i. begun_at p (length images) (seen_image i)) (slice_get images p)

-- one process more
pub begun_one_more : (images : List loaded.Image) (processes : List Process) (l : Process) (image : loaded.Image) → slice_get images (length processes) ≡ Some image
    → local_of l ≡ begun_at (length processes) (length images) (seen_image image) → BegunUpTo images processes → BegunUpTo images (processes ++ l ∷ [])
begun_one_more images processes l image there begins so_far p within = ⊎_elim
    (λ (e : length processes ≡ p). subst (λ q. option_map local_of (slice_get (processes ++ l ∷ []) q) ≡ option_map (λ i. begun_at q (length images) (seen_image i)) (slice_get images q)) e
    (rw (get_end processes l, there) (ap (λ x. Some x) begins)))
    (λ (ne : length processes ≢ p). ap (option_map local_of) (get_front processes (l ∷ []) p (before ne)) ∙ so_far p (before ne))
    (cases_eq (length processes) p)
  where
    before : length processes ≢ p → p < length processes
    before ne = let long : length (processes ++ l ∷ []) ≡ length processes + 1 = length-append processes (l ∷ []) in omega (arith, within, long, ne)

-- all of them, and none past the last image
by_image : (n p : ℕ) (o : Option Process) (i : Option loaded.Image) → option_map local_of o ≡ option_map (λ image. begun_at p n (seen_image image)) i
    → local_at n p o ≡ started_at p n (option_map seen_image i)
by_image n p None None same = refl
by_image n p None (Some image) same = absurd cc
by_image n p (Some l) None same = absurd cc
by_image n p (Some l) (Some image) same = let one : local_of l ≡ begun_at p n (seen_image image) = cc in one

pub begun_all : (images : List loaded.Image) (processes : List Process) (inputs : List (List (List ℕ))) → length processes ≡ length images → BegunUpTo images processes
    → (p : ℕ) → procs_of processes p ≡ begun (guests_of (map seen_image images) inputs) p
begun_all images processes inputs long so_far p = ap (λ n. local_at n p (slice_get processes p)) long
    ∙ by_image (length images) p (slice_get processes p) (slice_get images p) everywhere
    ∙ ap (λ o. started_at p (length images) o) (sym (slice_get-map seen_image images p)) ∙ ap (λ n. started_at p n (slice_get (map seen_image images) p)) (sym (length-map images seen_image))
  where
    everywhere : option_map local_of (slice_get processes p) ≡ option_map (λ i. begun_at p (length images) (seen_image i)) (slice_get images p)
    everywhere = ⊎_elim (λ (within : p < length processes). so_far p within)
        (λ (past : length processes ≤ p). rw (slice_get_past processes p past, slice_get_past images p (omega (arith, past, long))) refl)
        (cases_lt p (length processes))
