-- The shapes of ties.
use Rattle.ss_base.specs.Layout.{mode_of}
use Rattle.ss_world.specs.declared.ties.Tie.{Tie}
use Rattle.ss_world.specs.declared.ties.TieShape.{TieShape}

-- the shape of a tie: the mode of its value, and its direction
abbrev pub shape_of : Tie → TieShape
shape_of tie = record { mode = mode_of tie.value; high = tie.high }
