use Rattle.std.proofs.Common.{◌≡◌, ◌++◌, List, [], ◌∷◌, ℕ, append_assoc, refl, sym, ap, ◌∙◌}
use Rattle.std.proofs.lemmas.Result.{on_ok_weaker}
use Rattle.std.specs.Fmt.{decimal}
use Rattle.table.specs.declared.records.PlantFigures.{PlantFigures}
use Rattle.table.specs.Texts.{plant_text}
use Rattle.listing.proofs.line.push_plant.Goals as goal

-- what is written next, before what is written behind it
before : (t u v d b y : List ℕ) → u ≡ t ++ (d ++ b) → v ≡ u ++ y → v ≡ t ++ (d ++ (b ++ y))
before t u v d b y first next = next ∙ ap (λ l. l ++ y) first ∙ append_assoc t (d ++ b) y ∙ ap (λ l. t ++ l) (append_assoc d b y)

-- the end of a line behind its figures
ended : (p : PlantFigures) (end : List ℕ) → decimal p.committed ++ (32 ∷ (decimal p.allocated ++ (32 ∷ (decimal p.run ++ (32 ∷ (decimal p.support ++ (32 ∷ (decimal p.rate ++ (32 ∷ (decimal p.cost ++ end)))))))))) ≡ plant_text p ++ end
ended p end =
    ap (λ l. decimal p.committed ++ (32 ∷ l)) (ap (λ l. decimal p.allocated ++ (32 ∷ l)) (ap (λ l. decimal p.run ++ (32 ∷ l))
    (ap (λ l. decimal p.support ++ (32 ∷ l)) (ap (λ l. decimal p.rate ++ (32 ∷ l)) refl
    ∙ sym (append_assoc (decimal p.rate) (32 ∷ decimal p.cost) end))
    ∙ sym (append_assoc (decimal p.support) (32 ∷ (decimal p.rate ++ (32 ∷ decimal p.cost))) end))
    ∙ sym (append_assoc (decimal p.run) (32 ∷ (decimal p.support ++ (32 ∷ (decimal p.rate ++ (32 ∷ decimal p.cost))))) end))
    ∙ sym (append_assoc (decimal p.allocated) (32 ∷ (decimal p.run ++ (32 ∷ (decimal p.support ++ (32 ∷ (decimal p.rate ++ (32 ∷ decimal p.cost))))))) end))
    ∙ sym (append_assoc (decimal p.committed) (32 ∷ (decimal p.allocated ++ (32 ∷ (decimal p.run ++ (32 ∷ (decimal p.support ++ (32 ∷ (decimal p.rate ++ (32 ∷ decimal p.cost))))))))) end)

pub returns-clause-bytes : goal.returns-clause-bytes
returns-clause-bytes g c =
    let t = g.S.Sink.bytes c.args.text.now in
    let p = c.args.figures in
    let blank : List ℕ = 32 ∷ [] in
    let end : List ℕ = decimal p.cost ++ (10 ∷ []) in
    let line = λ (v : List ℕ) (last : v ≡ g.S.Sink.bytes c.push_number-6.new.text ++ end).
    let six = before _ _ v (decimal p.rate) blank end c.in_ok-push_number-6.ensures.bytes last in
    let five = before _ _ v (decimal p.support) blank _ c.in_ok-push_number-5.ensures.bytes six in
    let four = before _ _ v (decimal p.run) blank _ c.in_ok-push_number-4.ensures.bytes five in
    let three = before _ _ v (decimal p.allocated) blank _ c.in_ok-push_number-3.ensures.bytes four in
    let two = before _ _ v (decimal p.committed) blank _ c.in_ok-push_number-2.ensures.bytes three in
    let one = before _ _ v (decimal c.args.number) blank _ c.in_ok-push_number.ensures.bytes two in
    before t _ v (80 ∷ 32 ∷ []) [] _ c.in_ok-push.ensures one ∙ ap (λ l. t ++ (80 ∷ 32 ∷ (decimal c.args.number ++ (32 ∷ l)))) (ended p (10 ∷ [])) in
    on_ok_weaker c.push_number-7.result (line (g.S.Sink.bytes c.push_number-7.new.text)) c.push_number-7.ensures.bytes
