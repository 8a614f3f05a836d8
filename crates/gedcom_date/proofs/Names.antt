-- Names and keywords: what a word reads.
use Rattle.std.proofs.Common.{
  ◌≡◌,
  ◌⊎◌,
  inl,
  inr,
  ℕ,
  Bool,
  true,
  false,
  cond,
  List,
  map,
  codes,
  Option,
  Some,
  None,
  refl,
}
use Rattle.std.specs.Char.{to_ascii_lowercase}
use Rattle.std.proofs.lemmas.Slice.Eq.{bytes_eq-Decides}
use Rattle.gedcom_date.specs.Words.{Reads}
use Rattle.gedcom_date.specs.Reading.{reads, keyword_of}
use Rattle.gedcom_date.specs.declared.approximation.Approximation.TheVariants.{About, Calculated, Estimated}
use Rattle.gedcom_date.specs.declared.keyword.Keyword.{Keyword}
use Rattle.gedcom_date.specs.declared.keyword.Keyword.TheVariants.{
  Near,
  Before,
  After,
  Between,
  And,
  From,
  To,
  Interpreted,
}

-- the test is the fact
pub reads_is : (w k : List ℕ) → reads w k ≡ true → Reads w k
reads_is w k h = (bytes_eq-Decides (map to_ascii_lowercase w) (map to_ascii_lowercase k)).0 h

pub reads_only : (w k : List ℕ) → Reads w k → reads w k ≡ true
reads_only w k h = (bytes_eq-Decides (map to_ascii_lowercase w) (map to_ascii_lowercase k)).1 h

-- a word that reads as a name reads as the name reads
pub reads_as : (w name k : List ℕ) → Reads w name → reads w k ≡ reads name k
reads_as w name k h = rw h refl

pub keyword_as : (w name : List ℕ) → Reads w name → keyword_of w ≡ keyword_of name
unfolding keyword_of
keyword_as w name h = rw h refl

-- one name after the other
pick : {A : Type 0} (b : Bool) (k m : A) (rest : Option A) → cond b (Some k) rest ≡ Some m
    → ((b ≡ true) × (k ≡ m)) ⊎ (rest ≡ Some m)
pick true k m rest h = inl (refl, cc)
pick false k m rest h = inr h

-- the text of each keyword
abbrev pub keyword_text : Keyword → List ℕ
keyword_text (Near About) = codes "ABT"
keyword_text (Near Calculated) = codes "CAL"
keyword_text (Near Estimated) = codes "EST"
keyword_text Before = codes "BEF"
keyword_text After = codes "AFT"
keyword_text Between = codes "BET"
keyword_text And = codes "AND"
keyword_text From = codes "FROM"
keyword_text To = codes "TO"
keyword_text Interpreted = codes "INT"

pub keyword_only : (w : List ℕ) (k : Keyword) → Reads w (keyword_text k) → keyword_of w ≡ Some k
unfolding keyword_of
keyword_only w (Near About) h = keyword_as w (codes "ABT") h
keyword_only w (Near Calculated) h = keyword_as w (codes "CAL") h
keyword_only w (Near Estimated) h = keyword_as w (codes "EST") h
keyword_only w Before h = keyword_as w (codes "BEF") h
keyword_only w After h = keyword_as w (codes "AFT") h
keyword_only w Between h = keyword_as w (codes "BET") h
keyword_only w And h = keyword_as w (codes "AND") h
keyword_only w From h = keyword_as w (codes "FROM") h
keyword_only w To h = keyword_as w (codes "TO") h
keyword_only w Interpreted h = keyword_as w (codes "INT") h

pub keyword_is : (w : List ℕ) (k : Keyword) → keyword_of w ≡ Some k → Reads w (keyword_text k)
unfolding keyword_of
keyword_is w k h0 =
    elim (pick (reads w (codes "ABT")) (Near About) k
    (cond (reads w (codes "CAL")) (Some (Near Calculated))
    (cond (reads w (codes "EST")) (Some (Near Estimated))
    (cond (reads w (codes "BEF")) (Some Before)
    (cond (reads w (codes "AFT")) (Some After)
    (cond (reads w (codes "BET")) (Some Between)
    (cond (reads w (codes "AND")) (Some And)
    (cond (reads w (codes "FROM")) (Some From)
    (cond (reads w (codes "TO")) (Some To) (cond (reads w (codes "INT")) (Some Interpreted) None))))))))) h0) [
      | inl is ↦ rw (← is.1) (reads_is w (codes "ABT") is.0)
      | inr h1 ↦
          elim (pick (reads w (codes "CAL")) (Near Calculated) k
          (cond (reads w (codes "EST")) (Some (Near Estimated))
          (cond (reads w (codes "BEF")) (Some Before)
          (cond (reads w (codes "AFT")) (Some After)
          (cond (reads w (codes "BET")) (Some Between)
          (cond (reads w (codes "AND")) (Some And)
          (cond (reads w (codes "FROM")) (Some From)
          (cond (reads w (codes "TO")) (Some To) (cond (reads w (codes "INT")) (Some Interpreted) None)))))))) h1) [
            | inl is ↦ rw (← is.1) (reads_is w (codes "CAL") is.0)
            | inr h2 ↦
                elim (pick (reads w (codes "EST")) (Near Estimated) k
                (cond (reads w (codes "BEF")) (Some Before)
                (cond (reads w (codes "AFT")) (Some After)
                (cond (reads w (codes "BET")) (Some Between)
                (cond (reads w (codes "AND")) (Some And)
                (cond (reads w (codes "FROM")) (Some From)
                (cond (reads w (codes "TO")) (Some To) (cond (reads w (codes "INT")) (Some Interpreted) None)))))))
                h2) [
                  | inl is ↦ rw (← is.1) (reads_is w (codes "EST") is.0)
                  | inr h3 ↦
                      elim (pick (reads w (codes "BEF")) Before k
                      (cond (reads w (codes "AFT")) (Some After)
                      (cond (reads w (codes "BET")) (Some Between)
                      (cond (reads w (codes "AND")) (Some And)
                      (cond (reads w (codes "FROM")) (Some From)
                      (cond (reads w (codes "TO")) (Some To)
                      (cond (reads w (codes "INT")) (Some Interpreted) None)))))) h3) [
                        | inl is ↦ rw (← is.1) (reads_is w (codes "BEF") is.0)
                        | inr h4 ↦
                            elim (pick (reads w (codes "AFT")) After k
                            (cond (reads w (codes "BET")) (Some Between)
                            (cond (reads w (codes "AND")) (Some And)
                            (cond (reads w (codes "FROM")) (Some From)
                            (cond (reads w (codes "TO")) (Some To)
                            (cond (reads w (codes "INT")) (Some Interpreted) None))))) h4) [
                              | inl is ↦ rw (← is.1) (reads_is w (codes "AFT") is.0)
                              | inr h5 ↦
                                  elim (pick (reads w (codes "BET")) Between k
                                  (cond (reads w (codes "AND")) (Some And)
                                  (cond (reads w (codes "FROM")) (Some From)
                                  (cond (reads w (codes "TO")) (Some To)
                                  (cond (reads w (codes "INT")) (Some Interpreted) None)))) h5) [
                                    | inl is ↦ rw (← is.1) (reads_is w (codes "BET") is.0)
                                    | inr h6 ↦
                                        elim (pick (reads w (codes "AND")) And k
                                        (cond (reads w (codes "FROM")) (Some From)
                                        (cond (reads w (codes "TO")) (Some To)
                                        (cond (reads w (codes "INT")) (Some Interpreted) None))) h6) [
                                          | inl is ↦ rw (← is.1) (reads_is w (codes "AND") is.0)
                                          | inr h7 ↦
                                              elim (pick (reads w (codes "FROM")) From k
                                              (cond (reads w (codes "TO")) (Some To)
                                              (cond (reads w (codes "INT")) (Some Interpreted) None)) h7) [
                                                | inl is ↦ rw (← is.1) (reads_is w (codes "FROM") is.0)
                                                | inr h8 ↦
                                                    elim (pick (reads w (codes "TO")) To k
                                                    (cond (reads w (codes "INT")) (Some Interpreted) None) h8) [
                                                      | inl is ↦ rw (← is.1) (reads_is w (codes "TO") is.0)
                                                      | inr h9 ↦
                                                          elim (pick (reads w (codes "INT")) Interpreted k None h9) [
                                                            | inl is ↦ rw (← is.1) (reads_is w (codes "INT") is.0)
                                                            | inr h10 ↦ absurd cc
                                                          ]
                                                    ]
                                              ]
                                        ]
                                  ]
                            ]
                      ]
                ]
          ]
    ]
