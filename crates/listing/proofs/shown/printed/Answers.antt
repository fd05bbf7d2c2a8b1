use Rattle.std.proofs.Common.{◌≡◌}
use Rattle.std.specs.String.{string_bytes}
use Rattle.listing.proofs.Showing.{on_ok, shows_hour, shows_fault}
use Rattle.listing.specs.Printed.{fault_line, HourShown, IsPrinted}
use Rattle.listing.proofs.shown.printed.Goals as goal

pub returns-in-Ok : goal.returns-in-Ok
returns-in-Ok c =
    on_ok (λ text. HourShown c.read_hour-reached.result.reached c.length_of.result (string_bytes text)) (λ text. IsPrinted c.args.file.now (string_bytes text))
    (λ text shown. shows_hour c.new-book.result.table c.args.file.now c.read_hour-reached.result c.read_hour-reached.ensures.read (string_bytes text) c.in-Ok.field-0 c.length_of.result c.in-Ok.is shown)
    c.hour_shown.result c.hour_shown.ensures

pub returns-in-Err : goal.returns-in-Err
returns-in-Err c =
    on_ok (λ text. string_bytes text ≡ fault_line c.in-Err.fault) (λ text. IsPrinted c.args.file.now (string_bytes text))
    (λ text shown. shows_fault c.new-book.result.table c.args.file.now c.read_hour-reached.result c.read_hour-reached.ensures.read (string_bytes text) c.in-Err.fault c.in-Err.is shown)
    c.fault_line.result c.fault_line.ensures
