-- Sums of the volumes of a short list of commitments.
use Rattle.std.proofs.Common.{◌≡◌, ℕ, ◌+◌, ◌*◌, ◌≤◌, Bool, List, length, filter, Option, arith}
use denote.Param.Members.{Mut}
use Rattle.std.proofs.lemmas.Iterator.Adapters.{YieldsAtMost, fits_from_length}
use Rattle.std.proofs.lemmas.List.Sums.{length-filter, count_by-le-length}
use Rattle.std.specs.Fn.{Called}
use Rattle.std.specs.Iterator.Adapters.{map_steps, map_source, map_callee}
use Rattle.std.specs.Iterator.Runs.{WholeRun}
use Rattle.std.specs.List.{fold}
use Rattle.std.specs.declared.iter.Map.{Map}

-- a sum of at most 768 numbers of 32 bits
pub small_sum : {S A F : Type 0} {steps : S → Option A → S → Type 0} {s : Map S F} {g : Mut F (A × Unit {0}) ℕ} {f : F} (r : ℕ) → WholeRun (map_steps steps g) s (λ p. r ≡ fold (λ a x. a + x) 0 p.items) → YieldsAtMost steps (map_source s) 768 → map_callee s ≡ f → ((x : A) (v : ℕ) (q : F) → Called g f (x, tt) v q → (q ≡ f) × (v ≤ 4294967295)) → r ≤ 768 * 4294967295
small_sum {g = g} {f = f} r run few same each =
    let fits = fits_from_length g f 768 3298534882561 few same (omega arith) each in
    omega (arith, run.3, fits run.0 run.0.seen run.1)

pub filter_few : {X : Type 0} (p : X → Bool) (xs : List X) (n : ℕ) → length xs ≤ n → length (filter p xs) ≤ n
filter_few p xs n few = omega (arith, length-filter p xs, count_by-le-length p xs)
