-- `why::tone_read` reads the state's flag on the downlink. Assumes nothing.
use Rattle.std.proofs.Common.{rules}
use Rattle.frames.specs.Direction.{direction_in}
use Rattle.detector.specs.Step.{tone_read}
use Rattle.why.proofs.tone_read.Goals as goal

pub returns-in-Uplink : goal.returns-in-Uplink
unfolding tone_read direction_in
returns-in-Uplink c = search rules

pub returns-in-Downlink : goal.returns-in-Downlink
unfolding tone_read direction_in
returns-in-Downlink c = search rules
