-- `Direction::samples_ok` counts the samples of a downlink frame. Assumes nothing.
use Rattle.std.proofs.Common.{rules}
use Rattle.frames.specs.Frame.{samples_ok}
use Rattle.frames.specs.Direction.{direction_in}
use Rattle.frames.proofs.Direction.samples_ok.Goals as goal

pub returns-in-Uplink : goal.returns-in-Uplink
unfolding samples_ok direction_in
returns-in-Uplink c = search rules

pub returns-in-Downlink : goal.returns-in-Downlink
unfolding samples_ok direction_in
returns-in-Downlink c = search rules
