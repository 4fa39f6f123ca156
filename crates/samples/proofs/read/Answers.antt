-- `samples::read` reads the samples that are there, 160 at most, and leaves zeros after them. Assumes nothing.
use Rattle.std.proofs.Common.{rules, ◌≡◌, ℕ, ◌+◌, ◌*◌, ◌<◌, List, [], get_or, take, drop, replicate, set, ℤ, pos, sym, refl, ap, ◌∙◌, arith, length-set, length-take, drop-drop, w16, to_z}
use Rattle.std.proofs.lemmas.List.{get_or-replicate}
use lib.Seq.{drop-set-lt}
use Rattle.numbers.proofs.Read.{back}
use Rattle.rows.specs.Rows.{row, first_of}
use Rattle.rows.proofs.Fill.{fill_more, fill_rest}
use Rattle.samples.specs.Samples.{samples_of}
use Rattle.samples.proofs.Pattern.{sample_signed}
use Rattle.samples.proofs.Bytes.{samples_count, samples_at, samples_past, byte_at}
use Rattle.samples.proofs.Frame.{read_made}
use Rattle.samples.proofs.read.Goals as goal
use Rattle.samples.proofs.read.Goals.{After-from_le_bytes}

-- a number stored at k leaves what comes after it
left : (l s : List ℤ) (k : ℕ) (v : ℤ) → drop k l ≡ drop k s → drop (k + 1) (set l k v) ≡ drop (k + 1) s
left l s k v q = drop-set-lt (k + 1) l k v (omega arith) ∙ (sym (drop-drop 1 k l) ∙ (ap (drop 1) q ∙ drop-drop 1 k s))

-- what is read of the pair k is the sample k
sample : (c : After-from_le_bytes) → c.from_le_bytes.result ≡ get_or (samples_of c.args.bytes.now) c.loop-k.k (pos 0)
sample c =
    let l = c.args.bytes.now in
    let k = c.loop-k.k in
    let t = length-take c.min-count.result c.as_chunks.result.0.now in
    let n = c.as_chunks.ensures.front_len in
    let at = λ (i : ℕ) (h : i < 2). ap (λ (x : List (List ℕ)). get_or (get_or (take c.min-count.result x) k []) i 0) c.as_chunks.ensures.front ∙ byte_at c.min-count.result _ k i l (omega arith) (omega arith) h in
    c.from_le_bytes.ensures
    ∙ (ap (to_z w16) (let a = at 0 (omega arith) in let b = at 1 (omega arith) in let z : 2 * k + 0 ≡ 2 * k = omega arith in omega (arith, ap (λ (j : ℕ). get_or l j 0) z))
    ∙ (sample_signed _ _ (c.type_inv.bytes (2 * k)).fits (c.type_inv.bytes (2 * k + 1)).fits ∙ sym (samples_at l k (omega arith))))

pub loop-k-init : goal.loop-k-init
unfolding first_of row
loop-k-init c = (search rules, refl, refl)

pub loop-k-preserved : goal.loop-k-preserved
unfolding first_of
loop-k-preserved c =
    let l = c.args.bytes.now in
    let k = c.loop-k.k in
    let v = c.loop-k.invariant in
    let t = length-take c.min-count.result c.as_chunks.result.0.now in
    (simp length-set v.0, fill_more c.loop-k.sof (λ (i : ℕ). get_or (samples_of l) i (pos 0)) k _ (omega arith) v.1 (back w16 c.from_le_bytes.type_inv ∙ sample c), left c.loop-k.sof _ k _ v.2)

pub returns : goal.returns
unfolding first_of
returns c =
    let l = c.args.bytes.now in
    let n = samples_count l in
    let p = c.as_chunks.ensures.front_len in
    let t = length-take c.min-count.result c.as_chunks.result.0.now in
    read_made l c.min-count.result c.loop-k.sof (omega arith)
    (fill_rest c.loop-k.sof (replicate 160 (pos 0)) _ 160 c.loop-k.k (pos 0) c.loop-k.invariant.0 (omega arith) c.loop-k.invariant.1 c.loop-k.invariant.2
    (λ i h n. get_or-replicate 160 i (pos 0) (pos 0) n ∙ sym (samples_past l i (omega arith))))
