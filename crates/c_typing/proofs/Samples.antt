-- The derivations of small files.
use Rattle.std.proofs.Common.{refl}
use Rattle.c_typing.specs.World.{goes_on, stops}
use Rattle.c_typing.specs.Typing.{Types, TypesArgs, TypesSpecs, TypesSpec, TypesMembers, TypesMemberNames, TypesEnumerators, TypesDeclarator, TypesParams}
use Rattle.c_typing.specs.Decls.{TypesInitDeclarators, numbers_from, both}
use Rattle.c_typing.specs.Declarators.{laid}
use Rattle.block_mem.specs.Numbers.{low_bytes}
use Rattle.c_typing.specs.Constants.{constant_value, static_address, static_place}
use Rattle.c_typing.specs.CurrentObject.{whole, inside, unfinished}
use Rattle.c_typing.specs.Inits.{AtPart, Either}
use Rattle.c_typing.specs.Inits as lists
use Rattle.c_typing.specs.Settled.{settled_expr, settled_place, settled_exprs, settled_stmt, settled_stmts}
use Rattle.c_typing.specs.Context.{name_in, is_plain_name, is_function_declarator, has_storage, written_labels, written_labels_in}
use Rattle.c_typing.specs.Stmts.{TypesStmt, TypesItems}
use Rattle.c_typing.specs.File.{TypesOuters, with_counted, initials_from}
use Rattle.c_typing.specs.Samples.{SamplesAreTyped}

pub samples_are_typed : SamplesAreTyped
unfolding Types TypesArgs TypesSpecs TypesSpec TypesMembers TypesMemberNames TypesEnumerators TypesDeclarator TypesParams TypesInitDeclarators TypesStmt TypesItems TypesOuters laid numbers_from both name_in is_plain_name is_function_declarator has_storage written_labels written_labels_in with_counted constant_value static_address static_place AtPart Either lists.TypesItems unfinished initials_from settled_expr settled_place settled_exprs settled_stmt settled_stmts low_bytes
samples_are_typed = record {
  struct_plus_int = record {
    last = _;
    types =
        stops
        (goes_on (goes_on refl refl)
        (goes_on refl
        (goes_on (goes_on refl refl)
        (goes_on refl
        (stops
        (goes_on
        (goes_on (goes_on (goes_on refl (goes_on (goes_on (goes_on refl refl) (goes_on refl (goes_on (goes_on refl (goes_on refl refl)) refl))) refl)) refl)
        (goes_on refl (goes_on refl (goes_on refl (goes_on refl refl)))))
        (stops (stops (stops (goes_on (goes_on refl refl) (goes_on (goes_on refl refl) refl)))))))))));
    is = refl;
  };
  listed_struct = record {
    last = _;
    types =
        goes_on
        (goes_on
        (goes_on
        (goes_on
        (goes_on refl
        (goes_on
        (goes_on (goes_on refl refl) (goes_on refl (goes_on (goes_on refl (goes_on refl refl))
        (goes_on (goes_on refl refl) (goes_on refl (goes_on (goes_on refl (goes_on refl refl)) refl))))))
        refl))
        refl)
        (goes_on refl
        (goes_on (goes_on refl (goes_on (goes_on refl refl) refl))
        (goes_on refl
        (goes_on
        (goes_on
        (goes_on
        (goes_on (goes_on refl refl)
        (record {
          part2 = _;
          after = _;
          fills = inside _ _ _ _ refl (whole _ _ refl);
          goes = goes_on refl
              (goes_on (goes_on refl refl)
              (record {
                part2 = _;
                after = _;
                fills = whole _ _ refl;
                goes = goes_on refl
                    (goes_on (goes_on refl refl)
                    (record { part2 = _; after = _; fills = inside _ _ _ _ refl (whole _ _ refl); goes = goes_on refl refl }));
              }));
        }))
        refl)
        refl)
        refl)))))
        refl)
        (goes_on
        (goes_on (goes_on refl refl)
        (goes_on refl
        (goes_on (goes_on refl refl)
        (goes_on refl
        (goes_on
        (goes_on
        (goes_on (goes_on (goes_on (goes_on (goes_on refl refl) (goes_on (goes_on refl refl) refl)) refl) refl) refl)
        refl)
        refl)))))
        refl);
    is = refl;
  };
  measured_struct = record {
    last = _;
    types =
        goes_on
        (goes_on
        (goes_on
        (goes_on
        (goes_on refl
        (goes_on
        (goes_on (goes_on refl refl) (goes_on refl (goes_on (goes_on refl (goes_on refl refl))
        (goes_on (goes_on refl refl) (goes_on refl (goes_on (goes_on refl (goes_on refl refl)) refl))))))
        refl))
        refl)
        (goes_on refl
        (goes_on (goes_on refl refl)
        (goes_on refl
        (goes_on
        (goes_on
        (goes_on
        (goes_on (goes_on refl refl)
        (record {
          part2 = _;
          after = _;
          fills = inside _ _ _ _ refl (whole _ _ refl);
          goes = goes_on refl
              (goes_on (goes_on refl refl)
              (record {
                part2 = _;
                after = _;
                fills = whole _ _ refl;
                goes = goes_on refl
                    (goes_on (goes_on refl refl)
                    (record { part2 = _; after = _; fills = inside _ _ _ _ refl (whole _ _ refl); goes = goes_on refl refl }));
              }));
        }))
        refl)
        refl)
        refl)))))
        refl)
        refl;
    is = refl;
  };
}
