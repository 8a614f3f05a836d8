-- What is read from the lines of a family is that family, its own side of memberships.
use Rattle.std.specs.Prelude.{
  ℕ,
  ◌≡◌,
  ◌==◌,
  List,
  [],
  ◌∷◌,
  ◌++◌,
  map,
  true,
  false,
  not,
  cond,
  codes,
  refl,
  bytes_eq,
  ◌||◌,
}
use Rattle.std.specs.List.{filter, list_any}
use Rattle.std.proofs.Common.{ap, sym, ◌∙◌, append-nil, subst, arith}
use Rattle.std.proofs.lemmas.Bool.Decides.{nat_tests}
use Rattle.std.proofs.lemmas.List.{map-append}
use Rattle.std.proofs.lemmas.List.Elements.{filter-append}
use Rattle.std.proofs.lemmas.Bool.{or_parts}
use Rattle.stored_lines.specs.Tree.{Tree}
use Rattle.stored_lines.specs.Line.{Lines}
use Rattle.stored_lines.specs.declared.carried.Value.TheVariants as value
use Rattle.stored_lines.proofs.Back.{list_of_forest_of}
use Rattle.record_kinds.specs.Model as model
use Rattle.record_kinds.specs.declared.record.Record.{Record}
use Rattle.record_fields.specs.declared.words.Partnership.{Partnership}
use Rattle.record_fields.specs.declared.words.Partnership.TheVariants as partnership
use Rattle.record_shapes.specs.Lists.{EachOf, IsOnce}
use Rattle.record_shapes.specs.Members.{members}
use Rattle.record_shapes.specs.Tags.{family_tags}
use Rattle.record_shapes.specs.Forms.{Known, number_of}
use Rattle.record_shapes.specs.Fields.{Field, a_citation, a_member, an_event, carried, family_field, is_same, row}
use Rattle.record_shapes.specs.Picking.{all_of, is_left}
use Rattle.record_shapes.specs.Shapes.{
  Around,
  child_line,
  citation_line,
  citation_lines,
  events_below,
  family_lines,
  line,
  partner_line,
  partner_tag,
}
use Rattle.record_shapes.specs.Reading.{
  child_from,
  family_from,
  is_child_line,
  member_lines,
  once,
  once_behind,
  partner_from,
  partnership_of_tag,
}
use Rattle.record_shapes.specs.Untaken.{family_leaves}
use Rattle.record_shapes.specs.Readable.{IsKnown, IsReadableFamily}
use Rattle.record_shapes.specs.Laws.{apart_child, apart_partner}
use Rattle.record_shapes.proofs.Picked.{Are, kept_all, keep_skip, all_skip, all_own, lacks, left_more}
use Rattle.record_shapes.proofs.Persons.{other_tag}
use Rattle.record_shapes.proofs.Owned.{IsOwner, are_events, are_citations}
use Rattle.record_shapes.proofs.Each.{each_parts}

module _ (known : Known) where
  family-events : (tag v : List ℕ) (under : Lines) → list_any (bytes_eq tag) family_tags ≡ true
      → family_field known (line tag (value.Text v) under) ≡ an_event
  family-events tag v under h =
      let no-husb : bytes_eq tag (codes "HUSB") ≡ false = other_tag family_tags tag (codes "HUSB") h refl in
      let no-wife : bytes_eq tag (codes "WIFE") ≡ false = other_tag family_tags tag (codes "WIFE") h refl in
      let no-chil : bytes_eq tag (codes "CHIL") ≡ false = other_tag family_tags tag (codes "CHIL") h refl in
      rw (no-husb, no-wife, no-chil, h)

  family-citations : (c : model.Citation) → IsKnown (codes "SOUR") known c.source
      → family_field known (citation_line c) ≡ a_citation
  family-citations c h = ap (λ b. row b a_citation carried) h

  pub family_owner : IsOwner known (family_field known) family_tags
  family_owner = record { events = family-events; citations = family-citations }

  partner-is : (p : model.Partner) → IsKnown (codes "INDI") known p.person → family_field known
      (partner_line p) ≡ a_member
  partner-is p h = by p.partnership
    where
      by : (x : Partnership) → family_field known (line (partner_tag x) (value.Ref p.person) p.carried) ≡ a_member
      by partnership.Husband = rw h
      by partnership.Wife = rw h

  pub partners-are : (ps : List model.Partner) → EachOf (IsKnown (codes "INDI") known)
      (map (λ (p : model.Partner). p.person) ps) → Are (family_field known) a_member (map partner_line ps)
  partners-are [] h = tt
  partners-are (p ∷ ps) h = (partner-is p h.0, partners-are ps h.1)

  pub children-are : (cs : List model.Child) → EachOf (IsKnown (codes "INDI") known)
      (map (λ (c : model.Child). c.person) cs) → Are (family_field known) a_member (map child_line cs)
  children-are [] h = tt
  children-are (c ∷ cs) h = (rw h.0, children-are cs h.1)

-- ---- none twice
-- none of the numbers is among those seen
abbrev Fresh : List ℕ → List ℕ → Type 0
Fresh seen ns = EachOf (λ n. list_any (λ m. m == n) seen ≡ false) ns

fresh-more : (n : ℕ) (seen ns : List ℕ) → list_any (λ m. m == n) ns ≡ false → Fresh seen ns → Fresh (n ∷ seen) ns
fresh-more n seen [] h f = tt
fresh-more n seen (k ∷ ns) h f =
    let both : ((k == n) ≡ false) × (list_any (λ m. m == n) ns ≡ false) = or_parts (k == n)
    (list_any (λ m. m == n) ns) h in
    let other : (n == k) ≡ false = grind (arith, nat_tests, both.0) in
    ((ap (λ b. b || list_any (λ m. m == k) seen) other ∙ f.0), fresh-more n seen ns both.1 f.1)

once-all : (seen : List ℕ) (ts : Lines) → Fresh seen (map number_of ts) → IsOnce (map number_of ts)
    → once_behind seen ts ≡ ts
once-all seen [] f h = refl
once-all seen (t ∷ ts) f h =
    ap (λ b. cond b (once_behind seen ts) (t ∷ once_behind (number_of t ∷ seen) ts)) f.0
    ∙ ap (λ (us : Lines). t ∷ us)
    (once-all (number_of t ∷ seen) ts (fresh-more (number_of t) seen (map number_of ts) h.0 f.1) h.1)

none-seen : (ns : List ℕ) → Fresh [] ns
none-seen [] = tt
none-seen (n ∷ ns) = (refl, none-seen ns)

partner-numbers : (ps : List model.Partner) → map number_of (map partner_line ps) ≡ map
    (λ (p : model.Partner). p.person) ps
partner-numbers [] = refl
partner-numbers (p ∷ ps) = ap (λ ns. p.person ∷ ns) (partner-numbers ps)

child-numbers : (ps : List model.Child) → map number_of (map child_line ps) ≡ map (λ (p : model.Child). p.person) ps
child-numbers [] = refl
child-numbers (p ∷ ps) = ap (λ ns. p.person ∷ ns) (child-numbers ps)

member-numbers : (f : model.Family) → map number_of (map partner_line f.partners ++ map child_line f.children)
    ≡ members f
member-numbers f = map-append number_of (map partner_line f.partners) (map child_line f.children)
    ∙ (λ i. partner-numbers f.partners i ++ child-numbers f.children i)

-- ---- partners and children apart
partner-apart : (p : model.Partner) → is_child_line (partner_line p) ≡ false
partner-apart p = by p.partnership
  where
    by : (x : Partnership) → bytes_eq (partner_tag x) (codes "CHIL") ≡ false
    by partnership.Husband = refl
    by partnership.Wife = refl

partners-no : (ps : List model.Partner) → filter is_child_line (map partner_line ps) ≡ []
partners-no [] = refl
partners-no (p ∷ ps) = ap (λ b. cond b (partner_line p ∷ filter is_child_line (map partner_line ps))
    (filter is_child_line (map partner_line ps))) (partner-apart p) ∙ partners-no ps

partners-all : (ps : List model.Partner) → filter (λ t. not (is_child_line t)) (map partner_line ps)
    ≡ map partner_line ps
partners-all [] = refl
partners-all (p ∷ ps) =
    let rest = filter (λ t. not (is_child_line t)) (map partner_line ps) in
    ap (λ b. cond (not b) (partner_line p ∷ rest) rest) (partner-apart p) ∙ ap (λ (us : Lines). partner_line p ∷ us)
    (partners-all ps)

children-all : (cs : List model.Child) → filter is_child_line (map child_line cs) ≡ map child_line cs
children-all [] = refl
children-all (c ∷ cs) = ap (λ (us : Lines). child_line c ∷ us) (children-all cs)

children-no : (cs : List model.Child) → filter (λ t. not (is_child_line t)) (map child_line cs) ≡ []
children-no [] = refl
children-no (c ∷ cs) = children-no cs

partners-back : (ps : List model.Partner) → map partner_from (map partner_line ps) ≡ map apart_partner ps
partners-back [] = refl
partners-back (p ∷ ps) = λ i. back p i ∷ partners-back ps i
  where
    by : (x : Partnership) → partnership_of_tag (partner_tag x) ≡ x
    by partnership.Husband = refl
    by partnership.Wife = refl

    back : (q : model.Partner) → partner_from (partner_line q) ≡ apart_partner q
    back q = λ i. record {
      partnership = by q.partnership i;
      person = q.person;
      carried = list_of_forest_of q.carried i;
      carried_by_person = [];
    }

children-back : (cs : List model.Child) → map child_from (map child_line cs) ≡ map apart_child cs
children-back [] = refl
children-back (c ∷ cs) = λ i. record {
  person = c.person;
  carried = list_of_forest_of c.carried i;
  carried_by_person = [];
} ∷ children-back cs i

family-kept : (x : Field) → family_leaves x ≡ true → is_left [] x ≡ true
family-kept carried e = refl
family-kept _ e = absurd cc

pub family_back : (known : Known) (a : Around) (x : model.Family) (under : List (Tree Record))
    → IsReadableFamily known a x under
    → family_from known (family_lines a x under) ≡ record {
      partners = map apart_partner x.partners;
      children = map apart_child x.children;
      carried = x.carried;
    }
family_back known a x under h =
    let f = family_field known in
    let c = x.carried in
    let q = citation_lines under in
    let ev = events_below a under in
    let cs = map child_line x.children in
    let ps = map partner_line x.partners in
    let known-both : EachOf (IsKnown (codes "INDI") known) (map (λ (p : model.Partner). p.person) x.partners)
    × EachOf (IsKnown (codes "INDI") known) (map (λ (p : model.Child). p.person) x.children) =
    each_parts (IsKnown (codes "INDI") known) (map (λ (p : model.Partner). p.person) x.partners)
    (map (λ (p : model.Child). p.person) x.children) h.persons in
    let are-ps : Are f a_member ps = partners-are known x.partners known-both.0 in
    let are-cs : Are f a_member cs = children-are known x.children known-both.1 in
    let are-ev : Are f an_event ev = are_events known f family_tags (family_owner known) a under h.owned in
    let are-q : Are f a_citation q = are_citations known f family_tags (family_owner known) a under h.owned in
    let behind : all_of f a_member (ev ++ (q ++ c)) ≡ [] =
    all_skip f a_member an_event ev (q ++ c) are-ev refl ∙ all_skip f a_member a_citation q c are-q refl
    ∙ lacks f family_leaves a_member c h.untaken refl in
    let all : all_of f a_member (family_lines a x under) ≡ ps ++ cs =
    filter-append (λ t. is_same (f t) a_member) ps (cs ++ (ev ++ (q ++ c)))
    ∙ (λ i. all_own f a_member ps are-ps refl i ++ (filter-append (λ t. is_same (f t) a_member) cs (ev ++ (q ++ c))
    ∙ (λ j. all_own f a_member cs are-cs refl j ++ behind j) ∙ append-nil cs) i) in
    let members-are : member_lines known (family_lines a x under) ≡ ps ++ cs =
    ap once all ∙ once-all [] (ps ++ cs) (none-seen (map number_of (ps ++ cs)))
    (subst (λ ns. IsOnce ns) (sym (member-numbers x)) h.once) in
    λ i. record {
      partners = (ap (λ us. map partner_from (filter (λ t. not (is_child_line t)) us)) members-are
          ∙ ap (map partner_from) (filter-append (λ t. not (is_child_line t)) ps cs
          ∙ (λ j. partners-all x.partners j ++ children-no x.children j) ∙ append-nil ps)
          ∙ partners-back x.partners) i;
      children = (ap (λ us. map child_from (filter is_child_line us)) members-are
          ∙ ap (map child_from)
          (filter-append is_child_line ps cs ∙ (λ j. partners-no x.partners j ++ children-all x.children j))
          ∙ children-back x.children) i;
      carried = (keep_skip f (is_left []) a_member ps (cs ++ (ev ++ (q ++ c))) are-ps refl
          ∙ keep_skip f (is_left []) a_member cs (ev ++ (q ++ c)) are-cs refl
          ∙ keep_skip f (is_left []) an_event ev (q ++ c) are-ev refl ∙ keep_skip f (is_left [])
          a_citation q c are-q refl
          ∙ kept_all f (is_left []) c (left_more f family_leaves (is_left []) c family-kept h.untaken)) i;
    }
