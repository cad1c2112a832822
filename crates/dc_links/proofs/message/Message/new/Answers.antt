use Rattle.std.proofs.Common.{◌≡◌, ℕ, ◌-◌, ◌≤◌, List, ◌++◌, length, take, drop, replicate, ap, refl, arith, length-append}
use Rattle.std.proofs.lemmas.List.{drop-replicate, length-replicate, take_at}
use Rattle.dc_links.proofs.message.Message.new.Goals as goal

module _ (n : ℕ) (bytes room : List ℕ) where
  is_filled : length bytes ≤ n → room ≡ bytes → (length bytes ≤ n) × (room ++ drop (length bytes) (replicate {A = ℕ} n 0) ≡ take (length bytes) (room ++ drop (length bytes) (replicate {A = ℕ} n 0)) ++ replicate (n - length (take (length bytes) (room ++ drop (length bytes) (replicate {A = ℕ} n 0)))) 0) × (length (room ++ drop (length bytes) (replicate {A = ℕ} n 0)) ≡ n)
  is_filled le e =
      let kept : take (length bytes) (room ++ drop (length bytes) (replicate {A = ℕ} n 0)) ≡ room = take_at room (drop (length bytes) (replicate {A = ℕ} n 0)) (length bytes) (ap length e) in
      let spare : drop (length bytes) (replicate {A = ℕ} n 0) ≡ replicate {A = ℕ} (n - length bytes) 0 = drop-replicate (length bytes) n 0 in
      (le, rw (kept, spare, e) refl, rw (length-append, spare, length-replicate, e) (omega arith))

pub invariant_of-result : goal.invariant_of-result
invariant_of-result c = is_filled 64 c.args.bytes.now _ c.requires c.copy_from_slice.ensures.after
