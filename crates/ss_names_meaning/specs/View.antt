-- What the table gives as plain data, wherever it is in memory.
use Rattle.ss_names_meaning.specs.declared.laid.Laid.{Laid as LaidValue}
use Rattle.ss_names_meaning.specs.Layouts.{ResolvedLayout}

abbrev pub view_laid : LaidValue → ResolvedLayout
view_laid l = record {
  layout = l.layout;
  disciplines = l.disciplines.items;
  globals = l.globals.items;
  counts = l.counts.items;
  statistics = l.statistics.items;
}
