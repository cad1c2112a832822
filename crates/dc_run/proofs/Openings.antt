-- How a run's opening follows the told files.
use Rattle.std.proofs.Common.{◌≡◌, ◌∙◌, ◌⊎◌, ◌↔◌, inl, inr, ◌≤◌, ◌<◌, ◌+◌, ◌*◌, ◌/◌, ◌%◌, ℕ, All, suc, true, List, [], ◌∷◌, ◌++◌, String, string_bytes, map, take, drop, slice_get, slice_index_or, option_map, arith, length, Option, None, Some, IsErrOf, IsSome, Result, Ok, Err, ap, refl, subst, sym}
use Rattle.std.specs.declared.alloc.Global.{Global}
use Rattle.std.proofs.Math.Nat.{div-add-mod}
use Rattle.std.proofs.lemmas.List.{length-map, length-take-le, map-append, map_more, take-append-drop, take-map}
use Rattle.std.proofs.Math.Seq.{drop-cons}
use Rattle.std.proofs.lemmas.List.FromFn.{length-map-range_with_len}
use Rattle.std.proofs.lemmas.Option.{slice_get-get_or, slice_get-map}
use Rattle.dc_elf.specs.Files.{file_fault, parts_of}
use Rattle.dc_elf.specs.Images.{Image, byte_of, image_of}
use Rattle.dc_elf.specs.declared.faults.ElfFault.{ElfFault}
use Rattle.dc_elf.specs.declared.faults.LoadFault.{LoadFault}
use Rattle.dc_elf.specs.declared.faults.LoadFault.TheVariants.{Refused}
use Rattle.dc_elf.specs.declared.image.Image as loaded
use Rattle.dc_world.specs.Openable.{CanOpen}
use Rattle.dc_command.specs.Command.{Order}
use Rattle.dc_model.specs.declared.entry.Entry.{Entry}
use Rattle.dc_model.specs.declared.entry.Entry.TheVariants.{Turn, Stop, Power}
use Rattle.dc_plan.specs.Plans.{Plan}
use Rattle.dc_recovery.specs.Unstopped.{AreTurns}
use Rattle.dc_schedule.specs.Entries.{IsTurn}
use Rattle.dc_words.specs.Results.{◌>>=◌}
use Rattle.dc_run.specs.Opening.{AsksAtPlan, AsksForGuest, AsksToRun, Files, file_in, guest_in, images_in, plan_for}
use Rattle.dc_run.specs.Settings.{is_free_refusal}
use Rattle.dc_run.specs.declared.refusal.Refusal.{Refusal}
use Rattle.dc_run.specs.declared.refusal.Refusal.TheVariants as refusal
use Rattle.dc_run.specs.declared.verdict.Which.{Which}
use Rattle.dc_run.specs.declared.verdict.Which.TheVariants as which

-- a file without a fault, and its image
pub no_fault : (told : Option ElfFault) (found : Result loaded.Image LoadFault) (image : loaded.Image) → found ≡ Ok image
    → ((fault : ElfFault) → (found ≡ Err (Refused fault)) ↔ (told ≡ Some fault)) → told ≡ None
no_fault None found image is refused = refl
no_fault (Some fault) found image is refused = absurd (let e : ◌≡◌ {A = Result loaded.Image LoadFault} (Ok image) (Err (Refused fault)) = sym is ∙ (refused fault).1 refl in let never : ⊥ = cc in never)

module _ (files : Files) (size p : ℕ) (name file text : List ℕ) (found : file_in files (which.Guest p) name ≡ Ok file) (read : text ≡ file) where
  pub guest_loaded : (image : Image) → file_fault text size ≡ None → image ≡ image_of size text → guest_in files size p name ≡ Ok image
  guest_loaded image none is = rw (found, sym read, none) (ap (λ (i : Image). Ok i) (sym is))

  pub guest_refused : (fault : ElfFault) → file_fault text size ≡ Some fault → guest_in files size p name ≡ Err (refusal.Guest p fault)
  guest_refused fault is = rw (found, sym read, is) refl

-- the image of a file can begin
pub image_long : (file : List ℕ) (size : ℕ) (image : Image) → image ≡ image_of size file → length image.memory ≡ size
unfolding image_of
image_long file size image is = ap (λ (i : Image). length i.memory) is ∙ length-map-range_with_len (byte_of file (parts_of file)) 0 size

pub can_open : (size : ℕ) (image : loaded.Image) → 65536 ≤ size → size ≤ 1048576 → size % 4096 ≡ 0 → length image.memory.items ≡ size → image.entry % 4 ≡ 0 → CanOpen image
can_open size image least most pages long aligned =
    let whole : 4096 * (size / 4096) + size % 4096 ≡ size = div-add-mod size 4096 in
    let count : size ≡ 4096 * (size / 4096) = omega (arith, whole, pages) in
    ((omega (arith, long, least), omega (arith, long, most), rw long (omega (arith, count)), aligned), (size / 4096, long ∙ count, omega (arith, count, most)))

-- one guest more, or one that stops the others
more_step : (first : Result Image Refusal) (rest longer : Result (List Image) Refusal) (images : List Image) (image : Image) → (first >>= (λ x. rest >>= (λ xs. Ok (x ∷ xs)))) ≡ Ok images
    → ((xs : List Image) → rest ≡ Ok xs → longer ≡ Ok (xs ++ image ∷ [])) → (first >>= (λ x. longer >>= (λ xs. Ok (x ∷ xs)))) ≡ Ok (images ++ image ∷ [])
more_step (Err r) rest longer images image e further = absurd (let never : ⊥ = cc in never)
more_step (Ok x) (Err r) longer images image e further = absurd (let never : ⊥ = cc in never)
more_step (Ok x) (Ok xs) longer images image e further = let same : x ∷ xs ≡ images = cc in rw (further xs refl) (ap (λ (all : List Image). Ok (all ++ image ∷ [])) same)

stop_step : (first : Result Image Refusal) (rest longer : Result (List Image) Refusal) (images : List Image) (r : Refusal) → (first >>= (λ x. rest >>= (λ xs. Ok (x ∷ xs)))) ≡ Ok images
    → ((xs : List Image) → rest ≡ Ok xs → longer ≡ Err r) → (first >>= (λ x. longer >>= (λ xs. Ok (x ∷ xs)))) ≡ Err r
stop_step (Err s) rest longer images r e further = absurd (let never : ⊥ = cc in never)
stop_step (Ok x) (Err s) longer images r e further = absurd (let never : ⊥ = cc in never)
stop_step (Ok x) (Ok xs) longer images r e further = rw (further xs refl) refl

module _ (files : Files) (size : ℕ) where
  pub images_more : (names : List (List ℕ)) (p q : ℕ) (name : List ℕ) (images : List Image) (image : Image) → q ≡ p + length names → images_in files size p names ≡ Ok images
      → guest_in files size q name ≡ Ok image → images_in files size p (names ++ name ∷ []) ≡ Ok (images ++ image ∷ [])
  images_more [] p q name images image at e here =
      let first : guest_in files size p name ≡ Ok image = subst (λ k. guest_in files size k name ≡ Ok image) (omega (arith, at)) here in
      let none : [] ≡ images = cc in rw first (ap (λ (all : List Image). Ok (all ++ image ∷ [])) none)
  images_more (n ∷ names) p q name images image at e here = more_step (guest_in files size p n) (images_in files size (suc p) names) (images_in files size (suc p) (names ++ name ∷ [])) images image e
      (λ xs is. images_more names (suc p) q name xs image (omega (arith, at)) is here)

  pub images_stop : (names : List (List ℕ)) (p q : ℕ) (name : List ℕ) (after : List (List ℕ)) (images : List Image) (r : Refusal) → q ≡ p + length names → images_in files size p names ≡ Ok images
      → guest_in files size q name ≡ Err r → images_in files size p (names ++ name ∷ after) ≡ Err r
  images_stop [] p q name after images r at e here =
      let first : guest_in files size p name ≡ Err r = subst (λ k. guest_in files size k name ≡ Err r) (omega (arith, at)) here in rw first refl
  images_stop (n ∷ names) p q name after images r at e here = stop_step (guest_in files size p n) (images_in files size (suc p) names) (images_in files size (suc p) (names ++ name ∷ after)) images r e
      (λ xs is. images_stop names (suc p) q name after xs r (omega (arith, at)) is here)

-- the names of the guests' files as the loop over them has them
module _ (files : Files) (size : ℕ) (names : List (String Global)) (i p : ℕ) (item : String Global) (name : List ℕ) (images : List Image) (within : i < length names)
    (item_is : item ≡ slice_index_or names i item) (name_is : name ≡ string_bytes item) (p_is : p ≡ i) (loaded : images_in files size 0 (map string_bytes (take i names)) ≡ Ok images) where
  as_many : i ≡ 0 + length (map string_bytes (take i names))
  as_many = omega (arith, length-map (take i names) string_bytes, length-take-le i names (omega (arith, within)))

  there_is : slice_get (map string_bytes names) i ≡ Some name
  there_is = slice_get-map string_bytes names i ∙ ap (λ o. option_map string_bytes o) (slice_get-get_or names i item within ∙ ap (λ (x : String Global). Some x) (sym item_is)) ∙ ap (λ n. Some n) (sym name_is)

  at_i : {r : Result Image Refusal} → guest_in files size p name ≡ r → guest_in files size i (string_bytes item) ≡ r
  at_i {r} e = subst (λ n. guest_in files size i n ≡ r) name_is (subst (λ k. guest_in files size k name ≡ r) p_is e)

  whole : map string_bytes names ≡ map string_bytes (take i names) ++ string_bytes item ∷ map string_bytes (drop (suc i) names)
  whole = ap (map string_bytes) (sym (take-append-drop i names) ∙ ap (λ rest. take i names ++ rest) (drop-cons names i item within ∙ ap (λ x. x ∷ drop (suc i) names) (sym item_is)))
      ∙ map-append string_bytes (take i names) (item ∷ drop (suc i) names)

  pub guest_stops : (r : Refusal) → guest_in files size p name ≡ Err r → images_in files size 0 (map string_bytes names) ≡ Err r
  guest_stops r e = rw whole (images_stop files size (map string_bytes (take i names)) 0 i (string_bytes item) (map string_bytes (drop (suc i) names)) images r as_many loaded (at_i e))

  pub guest_added : (image : Image) → guest_in files size p name ≡ Ok image → images_in files size 0 (map string_bytes (take (i + 1) names)) ≡ Ok (images ++ image ∷ [])
  guest_added image e = rw (map_more string_bytes names i item within, sym item_is) (images_more files size (map string_bytes (take i names)) 0 i (string_bytes item) images image as_many loaded (at_i e))

  pub guest_asked : IsSome (files name) → AsksForGuest files size (map string_bytes names) i
  guest_asked there = rw (take-map string_bytes i names, loaded, there_is) there

-- a refusal in place of another value is the same refusal
pub same_refusal : {A B : Type 0} (x y : Refusal) → IsErrOf {T = A} (Err x) y → IsErrOf {T = B} (Err x) y
same_refusal x y is = let same : x ≡ y = cc in ap (λ (r : Refusal). Err r) same

-- a free refusal, or the one that is told, also of a result that it stops
pub told_on : {A B : Type 0} (r : Refusal) (told : Result A Refusal) (later : Result B Refusal) → (told ≡ Err r → later ≡ Err r)
    → (is_free_refusal r ≡ true) ⊎ (told ≡ Err r) → (is_free_refusal r ≡ true) ⊎ (later ≡ Err r)
told_on r told later stops (inl free) = inl free
told_on r told later stops (inr e) = inr (stops e)

-- the file of a guest, with the plan
pub asked_guest : (files : Files) (plan : Plan) (names : List (List ℕ)) (w : Which) → names ≡ plan.guests
    → ((q : ℕ) × (w ≡ which.Guest q) × AsksForGuest files plan.memory names q) → AsksAtPlan files plan w
asked_guest files plan names w same (q, is, asks) = subst (AsksAtPlan files plan) (sym is) (subst (λ all. AsksForGuest files plan.memory all q) same asks)

-- a file that the plan asks for, by an order
pub asked_by_order : (files : Files) (order : Order) (plan : Plan) (w : Which) → plan_for files order ≡ Ok plan → AsksAtPlan files plan w → AsksToRun files order w
asked_by_order files order plan which.Plan e asks = absurd asks
asked_by_order files order plan which.Source e asks = absurd asks
asked_by_order files order plan which.Journal e asks = absurd asks
asked_by_order files order plan which.Report e asks = absurd asks
asked_by_order files order plan which.Out e asks = absurd asks
asked_by_order files order plan (which.Guest q) e asks = rw e asks
asked_by_order files order plan which.Schedule e asks = rw e asks

-- entries that are all turns
pub turns_are : (n : ℕ) (entries : List Entry) → All (IsTurn n) entries → AreTurns entries
turns_are n [] all = tt
turns_are n (Turn turn ∷ entries) all = turns_are n entries (λ k d less. all (suc k) d (omega (arith, less)))
turns_are n (Stop p ∷ entries) all = absurd (all 0 Power (omega arith))
turns_are n (Power ∷ entries) all = absurd (all 0 Power (omega arith))
