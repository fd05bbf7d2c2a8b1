-- The group that closing splits over is the plant's.
use Rattle.std.proofs.Common.{◌≡◌, ℕ, zero, suc, ◌+◌, ◌-◌, ◌<◌, ◌≤◌, ◌++◌, min, List, length, get_or, drop, refl, sym, ap, subst, ◌∙◌, ⊎_elim, arith, length-append, length-drop}
use mathlib.Core.Path.{fun_ext}
use denote.Param.Members.{Mut}
use Rattle.std.specs.Fn.{Called}
use Rattle.std.specs.Array.{IsFromFnResult, IsFromFnResultFrom}
use Rattle.std.proofs.lemmas.List.{get_or_append_left, get_or-append_right, get_or-drop}
use Rattle.std.proofs.lemmas.Bool.{cases_lt}
use Rattle.allocation.specs.Groups.{Group, group_of, price_at}
use Rattle.curves.specs.Limits.{read_energy}
use Rattle.table.specs.Closing.{limit_at, plant_group}
use Rattle.table.specs.Rows.{UnitTable}

-- an array that a call at each place makes, where the calls change nothing
module _ {F B : Type 0} (g : Mut F (ℕ × Unit {0}) B) (f : F) (made : ℕ → B) (says : (i : ℕ) (y : B) (q : F) → Called g f (i, tt) y q → (y ≡ made i) × (q ≡ f)) (ys : List B) where
  made_from : (n i : ℕ) (p : F) → p ≡ f → IsFromFnResultFrom g p ys i n → (k : ℕ) (d : B) → i ≤ k → k < i + n → get_or ys k d ≡ made k
  made_from zero i p same made k d from below = absurd (omega arith)
  made_from (suc n) i p same (q, y, at, called, rest) k d from below =
      let here = says i y q (subst (λ s. Called g s (i, tt) y q) same called) in
      ⊎_elim
      (λ past. made_from n (i + 1) q here.1 rest k d (omega arith) (omega arith))
      (λ upto. let is : k ≡ i = omega arith in ap (λ j. get_or ys j d) is ∙ at.1 d ∙ here.0 ∙ ap made (sym is))
      (cases_lt i k)

  pub made_each : (n : ℕ) → IsFromFnResult g f ys n → (k : ℕ) (d : B) → k < n → get_or ys k d ≡ made k
  made_each n all k d below = made_from n 0 f refl all.each k d (omega arith) (omega arith)

module _ {O : Type 0} (prices : O → ℕ → ℕ) (offers : List O) (plant loss : ℕ) (t : UnitTable) (limits : List ℕ) (places : ℕ) where
  -- limits that are written as they are defined make the plant's group
  pub group_same : length limits ≡ 128 → places ≡ 128 → ((i : ℕ) → get_or limits i 0 ≡ limit_at plant loss t i) → group_of prices offers limits places ≡ plant_group prices offers plant loss t
  group_same long room each =
      let made = λ (n : ℕ) (limit : ℕ → ℕ). let g : Group = record { units = n; price = price_at prices offers; limit = limit } in g in
      let units : min (min (min (length offers) (length limits)) 128) places ≡ min (length offers) 128 = omega arith in
      ap (λ n. made n (λ i. read_energy (get_or limits i 0))) units ∙ ap (made (min (length offers) 128)) (fun_ext (λ i. ap read_energy (each i)))

-- a list whose first part is written anew
module _ {X : Type 0} (xs front : List X) (n : ℕ) (within : n ≤ length xs) (long : length front ≡ n) (d : X) where
  pub front_long : length (front ++ drop n xs) ≡ length xs
  front_long = omega (arith, length-append front (drop n xs), length-drop n xs, within, long)

  pub front_at : (i : ℕ) → i < n → get_or (front ++ drop n xs) i d ≡ get_or front i d
  front_at i lt = get_or_append_left front (drop n xs) d i (omega (arith, long))

  pub front_past : (i : ℕ) → n ≤ i → get_or (front ++ drop n xs) i d ≡ get_or xs i d
  front_past i past =
      let back : n + (i - n) ≡ i = omega arith in
      get_or-append_right front (drop n xs) n i d long past ∙ get_or-drop n xs (i - n) d ∙ ap (λ k. get_or xs k d) back
