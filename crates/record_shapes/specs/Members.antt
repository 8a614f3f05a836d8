-- The members of a family (The GEDCOM Standard Release 5.5.1, chapter 2, FAM_RECORD: HUSB, WIFE and CHIL).
use Rattle.std.specs.Prelude.{ℕ, List, ◌++◌, map}
use Rattle.record_kinds.specs.Model as model

-- its partners, and then its children
abbrev pub members : model.Family → List ℕ
members f = map (λ (p : model.Partner). p.person) f.partners ++ map (λ (c : model.Child). c.person) f.children
