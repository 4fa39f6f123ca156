-- `lines::written` writes the digits from the last on, each the remainder of what is left of the number. Assumes nothing.
use Rattle.std.proofs.Common.{◌≡◌, ℕ, suc, ◌-◌, ◌/◌, ◌%◌, ◌<◌, List, [], ◌∷◌, ◌++◌, length, drop, set, replicate, sym, ap, ap₂, ◌∙◌, append_assoc, append-nil, arith, length-set, drop-cons, drop_of_length-le, get_or-set_same}
use lib.ListN.{length-replicate}
use lib.Seq.{drop-set-lt}
use Rattle.lines.specs.Hex.{digit_of, digits_of}
use Rattle.lines.proofs.written.Goals as goal

-- one digit more in front of those that are written
step : (out : List ℕ) (j n d : ℕ) → j < length out → d ≡ digit_of (n % 16) → digits_of j (n / 16) ++ drop j (set out j d) ≡ digits_of (suc j) n ++ drop (suc j) out
unfolding digits_of
step out j n d h e =
    let s = drop-cons (set out j d) j d (rw (length-set out j d) h)
    ∙ ap₂ (λ (x : ℕ) (r : List ℕ). x ∷ r) (get_or-set_same out j d d h ∙ e) (drop-set-lt (suc j) out j d (omega arith)) in
    ap (λ (l : List ℕ). digits_of j (n / 16) ++ l) s ∙ sym (append_assoc (digits_of j (n / 16)) (digit_of (n % 16) ∷ []) (drop (suc j) out))

pub loop-i-init : goal.loop-i-init
loop-i-init g c = (omega arith, length-replicate g.row.K 48, ap (λ (l : List ℕ). digits_of g.row.K c.args.x ++ l) (drop_of_length-le (replicate g.row.K 48) {i = g.row.K} (omega (arith, length-replicate {A = ℕ} g.row.K 48))) ∙ append-nil _)

pub loop-i-preserved : goal.loop-i-preserved
loop-i-preserved g c =
    let v = c.loop-i.invariant in
    let e : c.loop-i.i ≡ suc (c.loop-i.i - 1) = omega arith in
    (omega arith, simp length-set v.1, step c.loop-i.out (c.loop-i.i - 1) c.loop-i.n _ (omega arith) c.digit.ensures ∙ (rw e at v.2))

pub returns : goal.returns
unfolding digits_of
returns g c =
    let z : c.loop-i.i ≡ 0 = omega arith in
    (rw z at c.loop-i.invariant.2)
