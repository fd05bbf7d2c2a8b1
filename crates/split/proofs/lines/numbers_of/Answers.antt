use Rattle.std.proofs.Common.{◌≡◌, ℕ, ◌<◌, List, Bor, length, get_or, map, IfOk, rules}
use Rattle.std.proofs.iter.runs.Made.{chains}
use Rattle.std.proofs.lemmas.Result.{IfOk-weaker}
use Rattle.std.specs.Str.Parse.{digits_value}
use Rattle.split.proofs.Numbers.{each_of}
use Rattle.split.proofs.lines.numbers_of.Goals as goal

pub returns : goal.returns
returns c =
    let words = c.args.words.now in
    let value = λ (w : Bor (List ℕ)). digits_value 10 w.now in
    let each : IfOk c.try_collect.result (λ v. (length v.items ≡ length words) × ((k : ℕ) (d : Bor (List ℕ)) → k < length words → get_or v.items k 0 ≡ value (get_or words k d))) = search (rules, chains) in
    IfOk-weaker c.try_collect.result _ (λ v. v.items ≡ map value words) (λ v made. each_of value words v.items made.0 made.1) each
