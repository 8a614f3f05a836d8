-- A drawing that goes on from another: nothing of what was drawn is changed.
use Rattle.std.proofs.Common.{
  ◌≡◌,
  Bool,
  true,
  false,
  cond,
  ℕ,
  ◌≤◌,
  List,
  [],
  ◌∷◌,
  ◌++◌,
  refl,
  sym,
  ap,
  ◌∙◌,
  arith,
  append_assoc,
  append-nil,
}
use Rattle.std.specs.Prelude.{Option, Some, bytes_eq}
use Rattle.stored_lines.specs.Line.{Lines}
use Rattle.stored_lines.specs.Tree.{Tree, Forest}
use Rattle.record_kinds.specs.declared.record.Record.{Record}
use Rattle.record_shapes.specs.Forms.{is_some}
use Rattle.record_shapes.specs.Reading.{Draft}
use Rattle.import_definitions.specs.Numbers.{
  Drawing,
  Drawn,
  Found,
  Places,
  draw,
  draw_all,
  draw_roots,
  drawn_more,
  of_file,
  root_drawn,
  settle,
  with_made,
}
use Rattle.imports.proofs.Drawn.{draw_all_keeps, draw_keeps, roots_keep, settled_keeps}

pub record IsFront {A : Type 0} (xs all : List A) : Type 0 where
  pub rest : List A
  pub whole : all ≡ xs ++ rest

pub record GoesOn (d later : Drawing) : Type 0 where
  pub drawn : IsFront d.drawn later.drawn
  pub roots : IsFront d.roots later.roots
  pub made : (q : List ℕ) → is_some (d.made q) ≡ true → is_some (later.made q) ≡ true
  pub next : d.next ≤ later.next

front_itself : {A : Type 0} (xs : List A) → IsFront xs xs
front_itself xs = record { rest = []; whole = sym (append-nil xs) }

front_then : {A : Type 0} (xs ys zs : List A) → IsFront xs ys → IsFront ys zs → IsFront xs zs
front_then xs ys zs h k = record {
  rest = h.rest ++ k.rest;
  whole = k.whole ∙ ap (λ l. l ++ k.rest) h.whole ∙ append_assoc xs h.rest k.rest;
}

front_one : {A : Type 0} (xs : List A) (x : A) → IsFront xs (xs ++ x ∷ [])
front_one xs x = record { rest = x ∷ []; whole = refl }

either : {A : Type 0} (b : Bool) (x y : Option A) → is_some x ≡ true → is_some y ≡ true → is_some (cond b x y) ≡ true
either true x y e g = e
either false x y e g = g

pub goes_itself : (d : Drawing) → GoesOn d d
goes_itself d = record {
  drawn = front_itself d.drawn;
  roots = front_itself d.roots;
  made = λ q e. e;
  next = omega arith;
}

pub goes_then : (d e f : Drawing) → GoesOn d e → GoesOn e f → GoesOn d f
goes_then d e f h k =
    let a : d.next ≤ e.next = h.next in
    let b : e.next ≤ f.next = k.next in
    record {
      drawn = front_then d.drawn e.drawn f.drawn h.drawn k.drawn;
      roots = front_then d.roots e.roots f.roots h.roots k.roots;
      made = λ q e. k.made q (h.made q e);
      next = omega arith;
    }

pub goes_file : (d : Drawing) (x : Drawn) → GoesOn d (drawn_more d x)
goes_file d x = record {
  drawn = front_one d.drawn x;
  roots = front_itself d.roots;
  made = λ q e. e;
  next = omega arith;
}

pub goes_made : (d : Drawing) (path name : List ℕ) (parent : Option Found) → GoesOn d (with_made path name parent d)
goes_made d path name parent = record {
  drawn = front_one d.drawn _;
  roots = front_itself d.roots;
  made = λ q e. either (bytes_eq path q) (Some d.next) (d.made q) refl e;
  next = omega arith;
}

pub goes_root : (d : Drawing) → GoesOn d (root_drawn d)
goes_root d = record {
  drawn = front_itself d.drawn;
  roots = front_one d.roots d.next;
  made = λ q e. e;
  next = omega arith;
}

-- ---- each step
module _ (first : Drawing) where
  abbrev Since : Drawing → Type 0
  Since d = GoesOn first d

  file_since : (d : Drawing) (owner : ℕ) (r : Record) (path : Option (List ℕ)) → Since d
      → Since (drawn_more d (of_file d.next owner r path))
  file_since d owner r path h = goes_then first d _ h (goes_file d (of_file d.next owner r path))

  made_since : (d : Drawing) (path name : List ℕ) (parent : Option Found) → Since d
      → Since (with_made path name parent d)
  made_since d path name parent h = goes_then first d _ h (goes_made d path name parent)

  root_since : (d : Drawing) → Since d → Since (root_drawn d)
  root_since d h = goes_then first d _ h (goes_root d)

  pub settle_goes : (w : Places) (before : Option ℕ) (k : ℕ) (names : List (List ℕ))
      → GoesOn first (settle w before k names first).0
  settle_goes w before k names = settled_keeps Since file_since made_since w before k names first
      (goes_itself first)

  pub draw_goes : (w : Places) (k owner : ℕ) (t : Tree Draft) → GoesOn first (draw w k owner first t)
  draw_goes w k owner t = draw_keeps Since file_since made_since w k owner first t (goes_itself first)

  pub draw_all_goes : (w : Places) (k owner : ℕ) (f : Forest Draft) → GoesOn first (draw_all w k owner first f)
  draw_all_goes w k owner f = draw_all_keeps Since file_since made_since w k owner first f
      (goes_itself first)

  pub roots_go : (rs : Lines) (w : Places) (k : ℕ) (behind : Lines) → GoesOn first (draw_roots rs w k first behind)
  roots_go rs w k behind = roots_keep Since file_since made_since root_since rs w k first behind (goes_itself first)
