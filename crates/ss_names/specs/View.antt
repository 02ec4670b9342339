-- The record of lists that a table of the program's type is seen as.
use Rattle.std.specs.Prelude.{map}
use Rattle.ss_names.specs.declared.names.Names.TheInside.{Inside}
use Rattle.ss_names.specs.Entries.{row_of}
use Rattle.ss_names.specs.Table.{Table}

abbrev pub view_table : Inside → Table
view_table n = record {
  meanings = n.meanings;
  usual = n.usual;
  modes = n.modes;
  classes = n.classes;
  attributes = n.attributes;
  fields = map row_of n.fields.items;
  set_names = n.set_names;
  sets = n.sets.items;
  variables = n.variables;
  routines = n.routines;
  events = n.events;
  ranks = n.ranks;
  histories = n.histories;
  subjects = n.subjects.items;
  rank_keys = n.rank_keys.items;
  tie_keys = n.tie_keys.items;
}
