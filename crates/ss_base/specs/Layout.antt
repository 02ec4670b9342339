-- Modes, and the classes that sets name.
use Rattle.std.specs.Prelude.{ℕ, Bool, true, false, ◌&&◌, ◌==◌, nat_le, nat_lt, pos, List, [], length, Option, Some, None, if◌then◌else◌}
use Rattle.std.specs.List.{list_all}
use Rattle.ss_base.specs.declared.value.Value.{Value}
use Rattle.ss_base.specs.declared.value.Value.TheVariants.{Whole, Text}
use Rattle.ss_base.specs.declared.layout.Mode.{Mode}
use Rattle.ss_base.specs.declared.layout.Mode.TheVariants.{Integer, Alpha}
use Rattle.ss_base.specs.declared.layout.Owner.{Owner}
use Rattle.ss_base.specs.declared.layout.Owner.TheVariants.{System, Class}
use Rattle.ss_base.specs.declared.layout.SetLayout.{SetLayout}
use Rattle.ss_base.specs.Plain.{PlainClass, PlainLayout}

-- the mode of a value
abbrev pub mode_of : Value → Mode
mode_of (Whole _) = Integer
mode_of (Text _) = Alpha

-- the first value of a mode: zero, or the empty text
abbrev pub first_value : Mode → Value
first_value Integer = Whole (pos 0)
first_value Alpha = Text []

-- whether two owners are one
abbrev pub same_owner : Owner → Owner → Bool
same_owner System System = true
same_owner System (Class d) = false
same_owner (Class c) System = false
same_owner (Class c) (Class d) = c == d

-- whether an owner is THE SYSTEM or one of so many classes
abbrev pub owns_among : ℕ → Owner → Bool
owns_among classes System = true
owns_among classes (Class class) = nat_lt class classes

-- whether the owner and the member of a set are among so many classes
abbrev pub names_classes : ℕ → SetLayout → Bool
names_classes classes set = owns_among classes set.owner && nat_lt set.member classes

-- whether the classes that the sets of a layout name are its own
abbrev pub is_sound : PlainLayout → Bool
is_sound layout = list_all (names_classes (length layout.classes)) layout.sets

-- the most classes, the most sets, and the most attributes of a class
abbrev pub layout_limit : ℕ
layout_limit = 1048576

-- whether a class has no more attributes than that
abbrev pub is_narrow : PlainClass → Bool
is_narrow class = nat_le (length class.fields) layout_limit

-- whether classes and sets make a layout: the sets name classes that are there, and there is not too much of anything
abbrev pub is_layout : PlainLayout → Bool
is_layout layout =
    is_sound layout && (nat_le (length layout.classes) layout_limit && (nat_le (length layout.sets) layout_limit && list_all is_narrow layout.classes))

-- the layout of these classes and sets, if they make one
abbrev pub layout_of : List PlainClass → List SetLayout → Option PlainLayout
layout_of classes sets =
    if is_layout (record { classes = classes; sets = sets })
    then Some (record { classes = classes; sets = sets })
    else None
