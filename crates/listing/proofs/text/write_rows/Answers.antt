use Rattle.std.proofs.Common.{◌≡◌, ◌++◌, Some, sym, ap, ◌∙◌, arith}
use Rattle.listing.proofs.Lines.{row_there, line_more, width, width_there, room_more}
use Rattle.listing.specs.Listing.{line_of}
use Rattle.listing.specs.Rooms.{line_room}
use Rattle.listing.specs.Rows.{row_in}
use Rattle.listing.proofs.text.write_rows.Goals as goal

pub loop-number-preserved : goal.loop-number-preserved
loop-number-preserved g c =
    let t = c.args.hour.now.book.now.table in
    let found : row_in c.args.kind c.loop-number.number t ≡ Some c.in-Some.row = sym c.of.ensures ∙ c.in-Some.is in
    let wide : line_room c.in-Some.row ≡ width c.args.kind = width_there c.args.kind c.loop-number.number t c.in-Some.row found in (
      omega arith,
      omega (arith, row_there c.args.kind c.loop-number.number t c.in-Some.row found),
      c.in_ok-write.ensures.bytes ∙ ap (λ l. l ++ line_of (Some c.in-Some.row)) c.loop-number.invariant.2
          ∙ line_more c.args.kind t c.loop-number.number c.in-Some.row (g.S.Sink.bytes c.args.text.now) c.loop-number.invariant.0 found,
      omega (arith, c.in_ok-write.ensures.room, c.loop-number.invariant.3, wide, room_more c.args.kind c.loop-number.number c.loop-number.invariant.0),
    )
