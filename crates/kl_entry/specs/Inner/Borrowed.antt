-- An entry whose texts are borrowed, as its fields.
use Rattle.kl_entry.specs.declared.entry.Entry.TheInside.{Inside}
use Rattle.kl_entry.specs.Entries.{EntryFields}

abbrev pub fields_of : Inside → EntryFields
fields_of e = record { hash = e.hash; alg = e.alg.now; digest = e.digest; path = e.path.now }
