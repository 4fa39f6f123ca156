-- `lines::put_line` puts the numbers, the scale, the lags and the line feed, each behind the one before. Assumes nothing.
use Rattle.std.proofs.Common.{◌≡◌, ℕ, ◌+◌, ◌*◌, ◌<◌, ◌≤◌, List, [], ◌∷◌, ◌++◌, map, length, get_or, take, drop, nat_abs, pos, sym, refl, ap, ◌∙◌, ap₂, append_assoc, append-nil, arith, take-append-drop, take_all, drop-drop, w16, w32, of_z, to_z-of_z, SFits, rules}
use lib.ListN.{length-map, get_or-map}
use Rattle.lines.specs.Hex.{digits_of, blocks_of}
use Rattle.lines.specs.Line.{line_of}
use Rattle.lines.proofs.Digits.{length_digits}
use Rattle.lines.proofs.Puts.{put_take, put_drop, put_length, blocks_next, length_blocks, whole}
use Rattle.lines.proofs.put_line.Goals as goal
use Rattle.lines.proofs.put_line.Goals.{After-lagitems-1}

pub loop-i-init : goal.loop-i-init
unfolding blocks_of
loop-i-init c = (c.requires, refl, refl)

pub loop-i-preserved : goal.loop-i-preserved
loop-i-preserved c =
    let acf = c.args.frame.acf in
    let i = c.loop-i.i in
    let v = c.loop-i.invariant in
    let w = map (of_z w32) acf in
    let x = of_z w32 (get_or acf i (pos 0)) in
    let f : SFits w32 (get_or acf i (pos 0)) = search rules in
    let z = c.cast_unsigned.ensures ∙ ap (of_z w32) (to_z-of_z f) in
    let e = c.put.ensures ∙ ap (λ (y : ℕ). take (8 * i) c.loop-i.line ++ digits_of 8 y ++ drop (8 * i + 8) c.loop-i.line) z in
    let n = length_digits 8 x in
    let h : 8 * i + 8 ≤ length c.loop-i.line = omega arith in
    let m : 8 * (i + 1) ≡ 8 * i + 8 = omega arith in
    let lw : i < length w = rw (length-map acf (of_z w32)) (omega arith) in (
      put_length c.loop-i.line _ (digits_of 8 x) (8 * i) 8 e n h ∙ v.0,
      rw m (put_take c.loop-i.line _ (digits_of 8 x) (8 * i) 8 e n h
          ∙ (ap₂ (λ (p q : List ℕ). p ++ q) v.1 (ap (digits_of 8) (sym (get_or-map (of_z w32) acf i (pos 0)))) ∙ sym (blocks_next 8 w i lw))),
      rw m (put_drop c.loop-i.line _ (digits_of 8 x) (8 * i) 8 e n h
          ∙ (sym (drop-drop 8 (8 * i) c.loop-i.line) ∙ (ap (drop 8) v.2 ∙ drop-drop 8 (8 * i) c.args.line.now))),
    )

-- the numbers are in their places, and the scale
module _ (c : After-lagitems-1) where
  abbrev text : List ℕ
  text = blocks_of 8 (map (of_z w32) c.args.frame.acf)

  acf_text : length text ≡ 72
  acf_text = length_blocks 8 (map (of_z w32) c.args.frame.acf) ∙ (let n = length-map c.args.frame.acf (of_z w32) in let h : length c.args.frame.acf ≡ 9 = search rules in omega arith)

  first : c.loop-i.line ≡ text ++ drop 72 c.args.line.now
  first =
      let v = c.loop-i.invariant in
      let w = map (of_z w32) c.args.frame.acf in
      let e : c.loop-i.i ≡ 9 = omega arith in
      let h : length c.args.frame.acf ≡ 9 = search rules in
      let lw : length w ≤ 9 = rw (length-map c.args.frame.acf (of_z w32)) (omega arith) in
      sym (take-append-drop 72 c.loop-i.line) ∙ ap₂ (λ (p q : List ℕ). p ++ q) (rw e at v.1 ∙ ap (blocks_of 8) (take_all 9 w lw)) (rw e at v.2)

  second : length c.put-2.new.line ≡ 82
  second = put_length c.loop-i.line _ (digits_of 1 c.from.result) 72 1 c.put-2.ensures (length_digits 1 c.from.result) (omega (arith, c.loop-i.invariant.0)) ∙ c.loop-i.invariant.0

pub loop-k-init : goal.loop-k-init
unfolding blocks_of
loop-k-init c = (second c, sym (append-nil _), refl)

pub loop-k-preserved : goal.loop-k-preserved
loop-k-preserved c =
    let lags = c.args.frame.lags in
    let i = c.loop-k.k in
    let v = c.loop-k.invariant in
    let x = get_or lags i 0 in
    let o = c.put-2.new.line in
    let e = c.put-in-loop-k.ensures ∙ ap (λ (y : ℕ). take (73 + 2 * i) c.loop-k.line ++ digits_of 2 y ++ drop (73 + 2 * i + 2) c.loop-k.line) c.from-in-loop-k.ensures in
    let n = length_digits 2 x in
    let h : 73 + 2 * i + 2 ≤ length c.loop-k.line = omega arith in
    let m : 73 + 2 * (i + 1) ≡ 73 + 2 * i + 2 = omega arith in
    let g : length lags ≡ 4 = search rules in (
      put_length c.loop-k.line _ (digits_of 2 x) (73 + 2 * i) 2 e n h ∙ v.0,
      rw m (put_take c.loop-k.line _ (digits_of 2 x) (73 + 2 * i) 2 e n h
          ∙ (ap (λ (p : List ℕ). p ++ digits_of 2 x) v.1
          ∙ (append_assoc (take 73 o) (blocks_of 2 (take i lags)) (digits_of 2 x) ∙ ap (λ (p : List ℕ). take 73 o ++ p) (sym (blocks_next 2 lags i (omega arith)))))),
      rw m (put_drop c.loop-k.line _ (digits_of 2 x) (73 + 2 * i) 2 e n h
          ∙ (sym (drop-drop 2 (73 + 2 * i) c.loop-k.line) ∙ (ap (drop 2) v.2 ∙ drop-drop 2 (73 + 2 * i) o))),
    )

pub returns : goal.returns
unfolding line_of
returns c =
    let b = c.before in
    let f : SFits w16 c.args.frame.scale = search rules in
    let v = c.loop-k.invariant in
    let k : c.loop-k.k ≡ 4 = omega arith in
    let g : length c.args.frame.lags ≡ 4 = search rules in
    let w = ap (λ (l : List ℕ). take 73 c.put-2.new.line ++ blocks_of 2 l) (take_all 4 c.args.frame.lags (omega arith)) in
    let third = sym (take-append-drop 81 c.loop-k.line) ∙ ap₂ (λ (p q : List ℕ). p ++ q) (rw k at v.1 ∙ w) (rw k at v.2) in
    let e = c.from.ensures ∙ (c.unsigned_abs.ensures.value ∙ ap nat_abs (to_z-of_z f)) in
    let r = (goal.at.returns c).After-lagitems-1 in
    whole c.args.line.now c.loop-i.line c.put-2.new.line c.loop-k.line (text r) (digits_of 1 c.from.result) (blocks_of 2 c.args.frame.lags) c.requires (acf_text r) (length_digits 1 c.from.result) (length_blocks 2 c.args.frame.lags ∙ omega arith)
    (first r) c.put-2.ensures third
    ∙ ap (λ (n : ℕ). text r ++ digits_of 1 n ++ blocks_of 2 c.args.frame.lags ++ (10 ∷ [])) e
