-- `Formed::of` tests the last character, and each of the 81. Assumes nothing.
use Rattle.std.proofs.Common.{◌≡◌, ◌&&◌, Bool, true, false, length, take, get_or, eqb, sym, ap, ap₂, ◌∙◌, arith, take_all, refl, rules}
use Rattle.std.specs.List.{list_all}
use Rattle.std.proofs.lemmas.List.Folds.{list_all_more}
use Rattle.lines.specs.Hex.{hex_of}
use Rattle.lines.specs.Line.{formed_of}
use Rattle.lines.proofs.Fields.{formed_as, formed_not}
use Rattle.lines.proofs.Formed.of.Goals as goal
use Rattle.lines.proofs.Formed.of.Goals.{After-loop-b}

and_yes : (a : Bool) → a ≡ (a && true)
and_yes true = refl
and_yes false = refl

and_and : (a b c : Bool) → ((a && b) && c) ≡ (a && (b && c))
and_and true b c = refl
and_and false b c = refl

pub returns-in_default : goal.returns-in_default
returns-in_default c = formed_not c.args.line.now (search rules)

pub loop-b-init : goal.loop-b-init
loop-b-init c = and_yes _

pub loop-b-preserved : goal.loop-b-preserved
loop-b-preserved c =
    let l = c.in-Some.line.now in
    let t = eqb (get_or l 81 0) 10 in
    let m = list_all_more hex_of (take 81 l) c.loop-b.b-index 0 c.loop-b-test.true in
    ap₂ ◌&&◌ c.loop-b.invariant c.is_hex-ok.ensures ∙ (and_and t _ _ ∙ ap (λ (x : Bool). t && x) (sym m))

-- after the last character
tested : (c : After-loop-b) → c.loop-b.ok ≡ formed_of c.in-Some.line.now
tested c =
    let l = c.in-Some.line.now in
    let n : length l ≡ 82 = search rules in
    c.loop-b.invariant
    ∙ (ap (λ (x : Bool). eqb (get_or l 81 0) 10 && x) (ap (list_all hex_of) (take_all c.loop-b.b-index (take 81 l) (omega arith))) ∙ sym (formed_as l n))

pub invariant_of-result : goal.invariant_of-result
invariant_of-result c = record { formed = sym (tested (goal.at.invariant_of-result c).After-loop-b) ∙ c.if-ok.true }

pub returns-else-ok : goal.returns-else-ok
returns-else-ok c =
    let r = (goal.at.returns-else-ok c).After-loop-b in
    let q : r.in-Some.line.now ≡ c.args.line.now = search rules in
    ap formed_of (sym q) ∙ (sym (tested r) ∙ c.if-ok.false)
