-- What reading and writing a line answer, and what each lent buffer holds afterwards: the checks in document 01's order, 1, 6, 2, 3, 4
-- for a line to read and 1, 2, 3, 4 for a frame to write. Assumes nothing.
use Rattle.std.specs.Prelude.{ℕ, ◌&&◌, List, length, replicate, ℤ, pos, nat_eq, Result, Ok, Err}
use Rattle.rows.specs.Choice.{IF◌THEN◌ELSE◌}
use Rattle.frames.specs.Frame.{lengths_ok, frame_refusal_of}
use Rattle.lines.specs.declared.Frame.{Frame}
use Rattle.lines.specs.Line.{LINE, frame_of, line_of, formed_of}
use Rattle.refusals.specs.Refusal.{number_of}
use Rattle.refusals.specs.declared.Refusal.{Refusal}

-- a line read: its refusal number, and its frame or zeros
pub record Decoded : Type 0 where
  pub refusal : ℕ
  pub scale : ℤ
  pub acf : List ℤ
  pub lags : List ℕ

-- a line read into lent numbers and lags: its refusal number and its scale
pub record Heading : Type 0 where
  pub refusal : ℕ
  pub scale : ℤ

-- the range checks 2, 3, 4 of a frame
unfoldable pub ranges_of : Frame → ℕ
ranges_of f = frame_refusal_of f.acf f.lags f.scale

-- ---- a line to read

-- a refused line: its number, and zeros
unfoldable pub refused_of : ℕ → Decoded
refused_of n = record { refusal = n; scale = pos 0; acf = replicate 9 (pos 0); lags = replicate 4 0 }

unfoldable pub accepted_of : Frame → Decoded
accepted_of f = record { refusal = 0; scale = f.scale; acf = f.acf; lags = f.lags }

-- an answer that is a frame or a refusal, as its number and values
unfoldable pub decoded_in : Result Frame Refusal → Decoded
decoded_in (Ok f) = accepted_of f
decoded_in (Err e) = refused_of (number_of e)

-- a well-formed line: 2, 3, 4
unfoldable pub checked_of : Frame → Decoded
checked_of f = IF nat_eq (ranges_of f) 0 THEN accepted_of f ELSE refused_of (ranges_of f)

-- the numbers of any line as they stand: 6 alone
unfoldable pub parsed_of : List ℕ → Decoded
parsed_of l = IF formed_of l THEN accepted_of (frame_of l) ELSE refused_of 6

-- any line: 6, and then the others
unfoldable pub decoded_of : List ℕ → Decoded
decoded_of l = IF formed_of l THEN checked_of (frame_of l) ELSE refused_of 6

unfoldable pub heading_of : Decoded → Heading
heading_of d = record { refusal = d.refusal; scale = d.scale }

-- an answer that is a scale or a refusal, as its number and scale
unfoldable pub heading_in : Result ℤ Refusal → Heading
heading_in (Ok scale) = record { refusal = 0; scale = scale }
heading_in (Err e) = record { refusal = number_of e; scale = pos 0 }

-- into lent numbers and lags: 1, and then the others
unfoldable pub read_of : List ℤ → List ℕ → List ℕ → Heading
read_of acf lags l = IF lengths_ok acf lags THEN heading_of (decoded_of l) ELSE heading_of (refused_of 1)

-- what the lent numbers hold afterwards, and what the lent lags hold
unfoldable pub acf_after : List ℤ → List ℕ → List ℕ → List ℤ
acf_after acf lags l = IF nat_eq (read_of acf lags l).refusal 0 THEN (frame_of l).acf ELSE acf

unfoldable pub lags_after : List ℤ → List ℕ → List ℕ → List ℕ
lags_after acf lags l = IF nat_eq (read_of acf lags l).refusal 0 THEN (frame_of l).lags ELSE lags

-- ---- a frame to write, into a lent line

unfoldable pub write_of : Frame → List ℕ → ℕ
write_of f l = IF lengths_ok f.acf f.lags && nat_eq (length l) LINE THEN ranges_of f ELSE 1

-- what the lent line holds afterwards
unfoldable pub line_after : Frame → List ℕ → List ℕ
line_after f l = IF nat_eq (write_of f l) 0 THEN line_of f ELSE l
