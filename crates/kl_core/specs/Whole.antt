-- What a desk tells that makes every record of its history.
use Rattle.kl_core.specs.Books.{BookFields}
use Rattle.kl_core.specs.Desk.{Told, places_from}

abbrev pub all_told : BookFields → Told
all_told b = record { seen = b.history; mine = places_from 0 b.history; marks = b.marks }
