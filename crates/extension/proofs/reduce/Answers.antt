-- By where the 78 bytes begin: there the two parts are laid; where they begin nowhere, no bytes.
use mathlib.Core.Path.{◌≡◌, ◌∙◌, sym, ap}
use mathlib.Core.List.{List, []}
use Prim.Native.Nat.{ℕ, ◌≤◌}
use native.Mathlib.Omega.{arith}
use lib.ListN.{length, get_or}
use Rattle.wire.specs.Bytes.{patch}
use Rattle.wire.proofs.PatchLaws.{patch_none}
use Rattle.model.specs.Codes.{cdb_len}
use Rattle.model.proofs.CodeLaws.{cdb_small}
use Rattle.extension.specs.Extension.{reduced}
use Rattle.extension.proofs.ReducedLaws.{short_none, short_refused, nothing_none, nothing_refused, wrong_none, wrong_refused, place_fits, place_reduces, place_reduced, place_length}
use Rattle.extension.proofs.reduce.Goals as goal

none-counted : (c : List ℕ) → reduced c ≡ [] → ◌≡◌ {A = ℕ} 0 (length (reduced c))
none-counted c e = sym (ap (λ (l : List ℕ). length l) e)

none-laid : (c room : List ℕ) → reduced c ≡ [] → room ≡ patch room 0 (reduced c)
none-laid c room e = sym (ap (λ (l : List ℕ). patch room 0 l) e ∙ patch_none room 0)

pub returns-then-c-cdb : goal.returns-then-c-cdb
returns-then-c-cdb c =
    let cdb = c.cdb_len-cdb.ensures ∙ ap cdb_len c.at.ensures in
    let none = short_none c.args.c.now _ cdb c.if-c-cdb.true in
    record { some = sym (short_refused c.args.c.now _ cdb c.if-c-cdb.true); count = none-counted _ none; laid = none-laid _ _ none }

pub returns-in-Ok-None : goal.returns-in-Ok-None
returns-in-Ok-None c =
    let cdb = c.cdb_len-cdb.ensures ∙ ap cdb_len c.at.ensures in
    let long = c.if-c-cdb.false in
    let there = rw c.in-Ok-None.field-0-is at c.in-Ok-None.is in
    let none = nothing_none c.args.c.now _ cdb _ long c.list_from.ensures there in
    record { some = sym (nothing_refused c.args.c.now _ cdb _ long c.list_from.ensures there); count = none-counted _ none; laid = none-laid _ _ none }

pub returns-in-Err : goal.returns-in-Err
returns-in-Err c =
    let cdb = c.cdb_len-cdb.ensures ∙ ap cdb_len c.at.ensures in
    let long = c.if-c-cdb.false in
    let none = wrong_none c.args.c.now _ cdb _ long c.list_from.ensures _ c.in-Err.is in
    record { some = sym (wrong_refused c.args.c.now _ cdb _ long c.list_from.ensures _ c.in-Err.is); count = none-counted _ none; laid = none-laid _ _ none }

pub lay-requires : goal.lay-requires
lay-requires c =
    let cdb = c.cdb_len-cdb.ensures ∙ ap cdb_len c.at.ensures in
    let long = c.if-c-cdb.false in
    let there = rw c.in-Ok-Some.field-0-is at c.in-Ok-Some.is in
    let small : c.cdb_len-cdb.result ≤ 16 = omega (arith, cdb_small (get_or c.args.c.now 0 0), cdb) in
    (small, long, place_fits c.args.c.now _ cdb _ long c.list_from.ensures _ there, c.requires)

pub returns-in-Ok-Some : goal.returns-in-Ok-Some
returns-in-Ok-Some c =
    let cdb = c.cdb_len-cdb.ensures ∙ ap cdb_len c.at.ensures in
    let long = c.if-c-cdb.false in
    let there = rw c.in-Ok-Some.field-0-is at c.in-Ok-Some.is in
    let laid = place_reduced c.args.c.now _ cdb _ long c.list_from.ensures _ there in
    record {
      some = sym (place_reduces c.args.c.now _ cdb _ long c.list_from.ensures _ there);
      count = place_length c.args.c.now _ cdb _ long c.list_from.ensures _ there;
      laid = c.lay.ensures ∙ ap (λ (l : List ℕ). patch c.args.room.now 0 l) (sym laid);
    }
