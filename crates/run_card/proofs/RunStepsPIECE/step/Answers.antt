-- There is room for a piece, and what is written of it is within the room. Assumes nothing of its own.
use Rattle.std.proofs.Common.{◌≡◌, length, rules, arith}
use Rattle.exchange.proofs.Calls.{fed_fits}
use Rattle.run_card.proofs.RunStepsPIECE.step.Goals as goal

pub unwrap-wrote-requires : goal.unwrap-wrote-requires
unwrap-wrote-requires c =
    let s = c.args.self.now in
    let n : length s.out ≡ 262144 = search rules in
    (fed_fits s.exchange c.args.piece.now (length s.out) c.feed.result (omega (arith, c.requires)) c.feed.ensures.value).ok

pub shared_ref_as_front-write : goal.shared_ref_as_front-write
shared_ref_as_front-write c =
    let s = c.args.self.now in
    let n : length s.out ≡ 262144 = search rules in
    let f = fed_fits s.exchange c.args.piece.now (length s.out) c.feed.result (omega (arith, c.requires)) c.feed.ensures.value in
    omega (arith, f.most c.unwrap-wrote.result c.unwrap-wrote.ensures)
