-- The automaton that a table stands for. Definitions only.
use Rattle.meaning.specs.Table as meaning
use Rattle.bodies.specs.declared.Table.{Table}

abbrev pub automaton : Table → meaning.Table
automaton table = meaning.table_of table.file.now
