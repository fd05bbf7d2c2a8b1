use Rattle.std.proofs.Common.{◌≡◌, ◌*◌, ◌/◌, ◌%◌, length, ap, ◌∙◌, map, get_or, arith}
use Rattle.split.specs.Lines.{numbers_of}
use Rattle.split.proofs.Numbers.{paired}
use Rattle.split.proofs.lines.steps_of.Goals as goal

pub returns-clause-read : goal.returns-clause-read
returns-clause-read c =
    let numbers = c.args.numbers.now in
    let none : length numbers % 2 ≡ 0 = omega (arith, c.as_chunks.ensures.back_len) in
    let whole : length numbers ≡ length numbers / 2 * 2 = omega (arith, none) in
    ap numbers_of (c.in_ok-steps_of_pairs.ensures ∙ ap (map (λ pair. record { width = get_or pair 0 0; price = get_or pair 1 0 })) c.as_chunks.ensures.front)
    ∙ paired (length numbers / 2) numbers whole
