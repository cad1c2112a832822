-- What is left of a torn call, and of a write that is made in parts.
use Rattle.std.specs.Prelude.{◌≡◌, ◌⊎◌, ◌+◌, ◌-◌, ◌/◌, ℕ, min, List, length, take, drop, slice_index, slice_set, Option, Result, MatchResult, IsOk, OnOk, nat_lt, ◌≤◌, if◌then◌else◌}
use Rattle.dc_media.specs.declared.faults.DeviceFault.{DeviceFault}
use Rattle.dc_media.specs.declared.tear.Tear.{Tear}
use Rattle.dc_media.specs.Calls.{IsCall}
use Rattle.dc_media.specs.Causes.{counted_by}
use Rattle.dc_media.specs.Disk.{Disk, Survives, spliced, with_pending}
use Rattle.dc_media.specs.Stores.{copied}
use Rattle.dc_media.specs.Tears.{torn, torn_word}
use Rattle.dc_media.specs.Told.{Becomes, Device}

-- what the laws of a device say of a process's store after exactly so many counted calls, with this answer for all of them
pub record IsInCalls {S C T : Type 0} (device : Device S C) (p count : ℕ) (result : Result T DeviceFault) (old new : S) : Type 0 where
  pub call : IsCall device p old new result
  pub calls : device.calls new p ≡ counted_by count (device.calls old p)

-- after a torn store the word is old or new
abbrev pub torn_store : Tear → ℕ → ℕ → List ℕ → List ℕ
torn_store tear i w words = slice_set words i (torn_word tear (slice_index words i) w)

-- in how many calls something is written at once: in none where there is none of it
abbrev pub at_once : ℕ → ℕ
at_once count = min count 1

-- a store that is torn: which word is set, and to what
pub record TornStore : Type 0 where
  pub tear : Tear
  pub index : ℕ
  pub word : ℕ

-- a store of which a planned stop keeps all or nothing: at Ok it is torn so; refused, the word is old or new
pub record IsTornStore {S T : Type 0} (device : Device S (List ℕ)) (p : ℕ) (store : TornStore) (result : Result T DeviceFault) (old new : S) : Type 0 where
  pub word : MatchResult result
      (λ _. Becomes (device.told old p) (device.told new p) (λ before after. after ≡ torn_store store.tear store.index store.word before))
      (λ _. Becomes (device.told old p) (device.told new p) (λ before after. (after ≡ before) ⊎ (after ≡ slice_set before store.index store.word)))
  pub unmade : store.tear.keep ≡ 0 → IsOk result × (new ≡ old)
  pub lawful : IsInCalls device p (at_once store.tear.keep) result old new

-- the first words of a line that are copied
pub record Copy : Type 0 where
  pub from : ℕ
  pub to : ℕ
  pub count : ℕ

-- how many words of a line are copied
abbrev pub kept_words : Tear → ℕ
kept_words tear = min tear.keep 16

-- in how many calls so many words of a line are copied: all of them in one, and fewer one by one
abbrev pub copy_calls : ℕ → ℕ
copy_calls count = if nat_lt count 16 then count else 1

-- a line of which a planned stop keeps the first words: at Ok so many are copied, in all the calls; refused, the first of them, in some of the calls
pub record IsTornCopy {S T : Type 0} (device : Device S (List ℕ)) (p : ℕ) (copy : Copy) (result : Result T DeviceFault) (old new : S) : Type 0 where
  pub words : MatchResult result
      (λ _. Becomes (device.told old p) (device.told new p) (λ before after. after ≡ copied copy.count copy.from copy.to before))
      (λ _. Becomes (device.told old p) (device.told new p) (λ before after. (k : ℕ) × (k ≤ 16) × (after ≡ copied k copy.from copy.to before)))
  pub unmade : copy.count ≡ 0 → IsOk result × (new ≡ old)
  pub made : ℕ
  pub few : made ≤ copy_calls copy.count
  pub all : OnOk result (made ≡ copy_calls copy.count)
  pub lawful : IsInCalls device p made result old new

-- n bytes at an offset are pending, and are what is made of the old ones
abbrev pub overwritten : ℕ → ℕ → (List ℕ → List ℕ) → Disk → Disk
overwritten at n make disk = record (with_pending at n disk) { content = spliced disk.content at (make (take n (drop at disk.content))) }

-- after a torn write all its bytes are pending, of which the first are new, and the others are old or filled
abbrev pub torn_disk : Tear → ℕ → List ℕ → Disk → Disk
torn_disk tear at piece disk = overwritten at (length piece) (λ old. torn tear old piece) disk

-- at Ok the bytes are overwritten so; refused, any pending byte may be changed
abbrev pub Overwrites : {T E : Type 0} → ℕ → ℕ → (List ℕ → List ℕ) → Result T E → Option Disk → Option Disk → Type 0
Overwrites at n make result old new = MatchResult result
    (λ _. Becomes old new (λ before after. after ≡ overwritten at n make before))
    (λ _. Becomes old new (λ before. Survives (with_pending at n before)))

-- in how many calls so many bytes are left or filled: 64 in each
abbrev pub in_parts : ℕ → ℕ
in_parts count = (count + 63) / 64

-- in how many calls a torn write is made: one for what is kept, then those for the rest
abbrev pub torn_calls : Tear → ℕ → ℕ
torn_calls tear count = let kept = min count tear.keep in at_once kept + in_parts (count - kept)

-- bytes that are overwritten: where, how many, by what is made of the old ones, and in how many calls
pub record Patch : Type 0 where
  pub at : ℕ
  pub count : ℕ
  pub make : List ℕ → List ℕ
  pub calls : ℕ

-- bytes of a disk are overwritten
pub record IsOverwrite {S T : Type 0} (device : Device S Disk) (p : ℕ) (patch : Patch) (result : Result T DeviceFault) (old new : S) : Type 0 where
  pub bytes : Overwrites patch.at patch.count patch.make result (device.told old p) (device.told new p)
  pub lawful : IsInCalls device p patch.calls result old new
