-- The direction that the code's frames have, in the words of the definitions. Assumes nothing.
use Rattle.frames.specs.declared.Direction as code
use Rattle.frames.specs.declared.Direction.TheVariants.{Uplink, Downlink}
use Rattle.frames.specs.Frame.{Direction, up, down}

-- one that goes down has the samples that are lent with it
unfoldable pub direction_in : code.Direction → Direction
direction_in Uplink = up
direction_in (Downlink samples) = down samples.now
