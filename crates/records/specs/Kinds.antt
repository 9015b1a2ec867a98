-- The kinds of faults that are a number's.
use Rattle.wire.specs.declared.NumberFault.{NumberFault}
use Rattle.wire.specs.declared.NumberFault.TheVariants.{Cut, Wrong}
use Rattle.records.specs.declared.faults.Kind.{Kind}
use Rattle.records.specs.declared.faults.Kind.TheVariants as kind

abbrev pub kind_of : NumberFault → Kind
kind_of Cut = kind.Cut
kind_of Wrong = kind.Number
