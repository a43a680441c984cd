-- The fields of a row, as they stand in it and as they are lent.
use Rattle.std.specs.Prelude.{List, map}
use Rattle.mp_model.specs.declared.fields.Field.{Field}
use Rattle.mp_model.specs.declared.fields.Field.TheVariants.{Number}
use Rattle.mp_model.specs.declared.fields.FieldList.{FieldList}
use Rattle.mp_model.specs.declared.fields.FieldList.TheVariants as lent
use Rattle.mp_model.specs.declared.fields.Stored.{Stored}
use Rattle.mp_model.specs.declared.fields.Stored.TheVariants as stored

-- the fields that stand in a row
abbrev pub fields_stored : Stored → List Field
fields_stored (stored.Two numbers) = map Number numbers
fields_stored (stored.Three numbers) = map Number numbers.value
fields_stored (stored.Mixed fields) = fields.value.items

-- the fields that are lent
abbrev pub fields_listed : FieldList → List Field
fields_listed (lent.Numbers numbers) = map Number numbers.now
fields_listed (lent.Mixed fields) = fields.now
