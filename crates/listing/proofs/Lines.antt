-- Rows by rising number, one line more at a time.
use Rattle.std.proofs.Common.{◌≡◌, ℕ, zero, suc, ◌+◌, ◌-◌, ◌*◌, ◌≤◌, min, Bool, true, false, cond, List, ◌++◌, Option, None, Some, Result, Ok, Err, is_some, refl, sym, ap, ◌∙◌, arith, append_assoc, append-nil}
use Rattle.std.proofs.lemmas.Bool.{true≢false, ltb-false, or_parts}
use Rattle.std.specs.List.{flat_map, range_with_len}
use Rattle.std.specs.Option.{option_map}
use Rattle.std.specs.Result.{result_ok}
use Rattle.table.specs.Entries.{lacks}
use Rattle.table.specs.declared.records.Table.{Table}
use Rattle.listing.specs.Listing.{line_of, count_of}
use Rattle.listing.specs.Rooms.{line_room, rows_room}
use Rattle.listing.specs.Rows.{row_in}
use Rattle.listing.specs.declared.rows.Kind.{Kind}
use Rattle.listing.specs.declared.rows.Kind.TheVariants.{Competitive, Guaranteed, Plants, Buyers}
use Rattle.listing.specs.declared.rows.Row.{Row}

-- a range with one number more
more_by : {A : Type 0} (f : ℕ → List A) (a n : ℕ) → flat_map f (range_with_len a (suc n)) ≡ flat_map f (range_with_len a n) ++ f (a + n)
more_by f a zero = append-nil (f a) ∙ ap f (there a)
  where
    there : (k : ℕ) → k ≡ k + 0
    there k = omega arith
more_by f a (suc n) =
    ap (λ l. f a ++ l) (more_by f (a + 1) n ∙ ap (λ k. flat_map f (range_with_len (a + 1) n) ++ f k) (there a n))
    ∙ sym (append_assoc (f a) (flat_map f (range_with_len (a + 1) n)) (f (a + suc n)))
  where
    there : (k m : ℕ) → k + 1 + m ≡ k + suc m
    there k m = omega arith

flat_more : {A : Type 0} (f : ℕ → List A) (a n m : ℕ) → n + 1 ≡ m → flat_map f (range_with_len a m) ≡ flat_map f (range_with_len a n) ++ f (a + n)
flat_more f a n m is =
    let next : m ≡ suc n = omega (arith, is) in
    ap (λ k. flat_map f (range_with_len a k)) next ∙ more_by f a n

-- a row that is there has one of the numbers
there_by : {X E : Type 0} (f : X → Row) (b : Bool) (x : X) (e : E) (row : Row) → option_map f (result_ok (cond b (Err e) (Ok x))) ≡ Some row → b ≡ false
there_by f true x e row h = absurd (true≢false (sym (ap is_some h)))
there_by f false x e row h = refl

numbered : (number count : ℕ) → lacks number count ≡ false → number ≤ count
numbered number count h = omega (arith, ltb-false count number (or_parts _ _ h).1)

pub row_there : (kind : Kind) (number : ℕ) (t : Table) (row : Row) → row_in kind number t ≡ Some row → number ≤ count_of kind t
row_there Competitive number t row h = numbered number (min t.competitive.count 128) (there_by _ _ _ _ row h)
row_there Guaranteed number t row h = numbered number (min t.guaranteed.count 128) (there_by _ _ _ _ row h)
row_there Plants number t row h = numbered number (min t.plants.count 32) (there_by _ _ _ _ row h)
row_there Buyers number t row h = numbered number (min t.buyers.count 64) (there_by _ _ _ _ row h)

-- the lines up to a number, and one line more
pub line_more : (kind : Kind) (t : Table) (number : ℕ) (row : Row) (text : List ℕ) → 1 ≤ number → row_in kind number t ≡ Some row → (text ++ flat_map (λ k. line_of (row_in kind k t)) (range_with_len 1 (number - 1))) ++ line_of (Some row) ≡ text ++ flat_map (λ k. line_of (row_in kind k t)) (range_with_len 1 (number + 1 - 1))
line_more kind t number row text low is =
    let f : ℕ → List ℕ = λ k. line_of (row_in kind k t) in
    let n = number - 1 in
    let here : 1 + n ≡ number = omega (arith, low) in
    let next : n + 1 ≡ number + 1 - 1 = omega (arith, low) in
    append_assoc text (flat_map f (range_with_len 1 n)) (line_of (Some row))
    ∙ ap (λ l. text ++ (flat_map f (range_with_len 1 n) ++ l)) (ap line_of (sym is) ∙ ap f (sym here))
    ∙ ap (λ l. text ++ l) (sym (flat_more f 1 n (number + 1 - 1) next))

-- the room of a line of a kind
abbrev pub width : Kind → ℕ
width Competitive = 51
width Guaranteed = 51
width Plants = 111
width Buyers = 48

width_by : {X E : Type 0} (f : X → Row) (w : ℕ) (r : Result X E) (row : Row) → ((x : X) → line_room (f x) ≡ w) → option_map f (result_ok r) ≡ Some row → line_room row ≡ w
width_by f w (Ok x) row each is = ap (λ o. room_or w o) (sym is) ∙ each x
  where
    room_or : ℕ → Option Row → ℕ
    room_or n None = n
    room_or n (Some r) = line_room r
width_by f w (Err e) row each is = absurd (true≢false (sym (ap is_some is)))

pub width_there : (kind : Kind) (number : ℕ) (t : Table) (row : Row) → row_in kind number t ≡ Some row → line_room row ≡ width kind
width_there Competitive number t row is = width_by _ 51 _ row (λ x. refl) is
width_there Guaranteed number t row is = width_by _ 51 _ row (λ x. refl) is
width_there Plants number t row is = width_by _ 111 _ row (λ x. refl) is
width_there Buyers number t row is = width_by _ 48 _ row (λ x. refl) is

-- rows of a kind that are there have room
pub room_there : (kind : Kind) (number : ℕ) (t : Table) → 1 ≤ number → number ≤ count_of kind t → (number - 1) * width kind + width kind ≤ rows_room kind
room_there Competitive number t low high = omega (arith, low, high)
room_there Guaranteed number t low high = omega (arith, low, high)
room_there Plants number t low high = omega (arith, low, high)
room_there Buyers number t low high = omega (arith, low, high)

-- room after the last row
pub room_kept : (kind : Kind) (number : ℕ) (t : Table) → number ≤ count_of kind t + 1 → (number - 1) * width kind ≤ rows_room kind
room_kept Competitive number t high = omega (arith, high)
room_kept Guaranteed number t high = omega (arith, high)
room_kept Plants number t high = omega (arith, high)
room_kept Buyers number t high = omega (arith, high)

-- the room of one line more
pub room_more : (kind : Kind) (number : ℕ) → 1 ≤ number → (number + 1 - 1) * width kind ≡ (number - 1) * width kind + width kind
room_more Competitive number low = omega (arith, low)
room_more Guaranteed number low = omega (arith, low)
room_more Plants number low = omega (arith, low)
room_more Buyers number low = omega (arith, low)
