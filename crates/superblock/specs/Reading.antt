-- What the sector of a superblock says at the places of its fields.
use Rattle.superblock.specs.declared.fields.Fields.{Fields}
use Rattle.superblock.specs.declared.table.Superblock.{Superblock}

-- the fields that a superblock has
abbrev pub fields_of : Superblock → Fields
fields_of superblock = record {
  format = superblock.table.geometry.format;
  id = superblock.table.id;
  generation = superblock.table.generation;
  members = superblock.table.geometry.members;
  role = superblock.role;
  chunk = superblock.table.geometry.chunk;
  stripes = superblock.table.geometry.stripes;
  states = superblock.table.states;
  incarnations = superblock.table.incarnations;
  position = superblock.table.position;
}
