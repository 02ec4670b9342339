-- Layouts as plain data: two with the same contents are equal, wherever they lie in memory.
use Rattle.std.specs.Prelude.{List}
use Rattle.ss_base.specs.declared.layout.Mode.{Mode}
use Rattle.ss_base.specs.declared.layout.ClassKind.{ClassKind}
use Rattle.ss_base.specs.declared.layout.SetLayout.{SetLayout}

-- a class: its kind, and the modes of its fields
pub record PlainClass : Type 0 where
  pub kind : ClassKind
  pub fields : List Mode

-- the classes and the sets of a model
pub record PlainLayout : Type 0 where
  pub classes : List PlainClass
  pub sets : List SetLayout
