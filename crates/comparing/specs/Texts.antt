-- How what was found prints.
use Rattle.std.specs.Prelude.{ℕ, List, ◌++◌, codes}
use Rattle.std.specs.Fmt.{decimal}
use Rattle.comparing.specs.declared.tallies.Finding.{Finding}

abbrev pub finding_text : Finding → List ℕ
finding_text f =
    f.subject.now ++ (codes ": " ++ (decimal f.tally.compared ++ (codes " " ++ (f.things.now ++ (codes ", " ++
    (decimal f.tally.differ ++ codes " differ"))))))
