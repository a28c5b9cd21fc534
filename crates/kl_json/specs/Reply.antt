-- What a reply says.
use Rattle.std.specs.Prelude.{ℕ, List, codes}
use Rattle.serde_json.specs.Data.{Data, number, unsigned, string, object, member, no_members}

-- of a code, the results and the status
abbrev pub reply : ℕ → Data → List ℕ → Data
reply code results status = object (member (codes "code") (number (unsigned code))
    (member (codes "results") results (member (codes "status") (string status) no_members)))
