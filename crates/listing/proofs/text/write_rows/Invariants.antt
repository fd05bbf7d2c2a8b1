use Rattle.std.proofs.Common.{◌≡◌, ◌+◌, ◌-◌, ◌*◌, ◌≤◌, ◌++◌, length}
use Rattle.std.specs.List.{flat_map, range_with_len}
use Rattle.listing.proofs.Lines.{width}
use Rattle.listing.specs.Listing.{line_of, count_of}
use Rattle.listing.specs.Rows.{row_in}
use Rattle.listing.proofs.text.write_rows.Given as goal

-- the rows before this number are written, and there are as many
abbrev pub invariant-loop-number : goal.invariant-loop-number
invariant-loop-number g l =
    let t = l.hour.book.now.table in
    (1 ≤ l.number) × (l.number ≤ count_of l.kind t + 1)
    × (g.S.Sink.bytes l.text ≡ g.S.Sink.bytes l.fn.text ++ flat_map (λ number. line_of (row_in l.kind number t)) (range_with_len 1 (l.number - 1)))
    × (length (g.S.Sink.bytes l.text) ≤ length (g.S.Sink.bytes l.fn.text) + (l.number - 1) * width l.kind)
