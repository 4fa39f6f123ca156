-- `Formed::acf` reads the numbers one after the other. Assumes nothing.
use Rattle.std.proofs.Common.{◌≡◌, ◌*◌, ◌/◌, ◌<◌, true, sym, subst, List, ℕ, [], get_or, length, take, drop, refl, ap, ◌∙◌, arith, length-set, length-take, get_or-take, w32, to_z}
use Rattle.numbers.proofs.Read.{back}
use Rattle.rows.specs.Rows.{row, all}
use Rattle.rows.proofs.Fill.{fill_more, fill_all}
use Rattle.std.specs.Simd.{first_chunks}
use Rattle.lines.specs.Hex.{hex_of, number_of}
use Rattle.lines.specs.Line.{field_at, word_at}
use Rattle.lines.proofs.Fields.{formed, field_hex, part_at}
use Rattle.lines.proofs.Formed.acf.Goals as goal

pub loop-i-init : goal.loop-i-init
unfolding row
loop-i-init c = (refl, refl)

-- the word i is eight digits
word : (l : List ℕ) (w : List (List ℕ)) (i : ℕ) → length l ≡ 82 → w ≡ first_chunks 8 (length l / 8) l → i < 9 → get_or (take 9 w) i [] ≡ take 8 (drop (8 * i) l)
word l w i s e h = ap (λ (x : List (List ℕ)). get_or (take 9 x) i []) e ∙ (get_or-take 9 (first_chunks 8 (length l / 8) l) i [] h ∙ part_at (length l / 8) i l (omega arith))

pub number-requires : goal.number-requires
number-requires c =
    let l = c.args.self.line.now in
    let s = (formed l c.args.self.formed).size in
    let t = length-take 9 c.as_chunks.result.0.now in
    let p = word l c.as_chunks.result.0.now c.loop-i.i s c.as_chunks.ensures.front (omega arith) in
    subst (λ (x : List ℕ). all hex_of x ≡ true) (sym p) (field_hex l c.args.self.formed (8 * c.loop-i.i) 8 (omega arith))

pub loop-i-preserved : goal.loop-i-preserved
unfolding word_at field_at
loop-i-preserved c =
    let l = c.args.self.line.now in
    let v = c.loop-i.invariant in
    let s = (formed l c.args.self.formed).size in
    let t = length-take 9 c.as_chunks.result.0.now in
    let p = word l c.as_chunks.result.0.now c.loop-i.i s c.as_chunks.ensures.front (omega arith) in
    let e = back w32 {z = c.cast_signed.result} c.cast_signed.type_inv ∙ (c.cast_signed.ensures ∙ ap (to_z w32) (c.number.ensures ∙ ap number_of p)) in
    (simp length-set v.0, fill_more c.loop-i.acf (word_at l) c.loop-i.i _ (omega arith) v.1 e)

pub returns : goal.returns
returns c =
    let v = c.loop-i.invariant in
    let s = (formed c.args.self.line.now c.args.self.formed).size in
    let t = length-take 9 c.as_chunks.result.0.now in
    let p = c.as_chunks.ensures.front_len in
    fill_all c.loop-i.acf (word_at c.args.self.line.now) 9 c.loop-i.i v.0 (omega arith) v.1
